use Rattle.dcc_track.proofs.track.TrackDecoder.end_service.Goals as goal

pub returns : goal.returns
returns g c = c.end_service_in_parts.ensures c.args.self.now.main_only
