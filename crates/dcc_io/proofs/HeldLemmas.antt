-- Bytes that are held behind those that were written.
use Rattle.std.proofs.Common.{ℕ, List, [], ◌++◌, refl, sym, append_assoc}
use Rattle.std.specs.Io.KnownBytes.{Appends}
use Rattle.dcc_io.specs.WriterState.{WriterState}
use Rattle.dcc_io.specs.WrittenBytes.{AppendsFront}
use Rattle.dcc_io.specs.Held.{Holds}
use Rattle.dcc_io.proofs.WrittenLemmas.{Appends-none, Appends-append}

-- nothing was written yet
pub Holds-same : (before : WriterState) (bytes : List ℕ) → Holds before before bytes bytes
Holds-same before bytes = record { written = []; whole = refl; appended = Appends-none before }

-- more bytes follow
Holds-more : {before mid : WriterState} {bytes held : List ℕ} (more : List ℕ) → Holds before mid bytes held
    → Holds before mid (bytes ++ more) (held ++ more)
Holds-more {held = held} more holds = record {
  written = holds.written;
  whole = rw holds.whole (append_assoc holds.written held more);
  appended = holds.appended;
}

pub Holds-wrote : (before mid after : WriterState) (bytes held later : List ℕ) → Holds before mid bytes held
    → Holds mid after held later → Holds before after bytes later
Holds-wrote before mid after bytes held later first second = record {
  written = first.written ++ second.written;
  whole = rw (first.whole, second.whole) (sym (append_assoc first.written second.written later));
  appended = Appends-append before mid after first.written second.written first.appended second.appended;
}

pub Holds-append : (before mid after : WriterState) (bytes held more later : List ℕ) → Holds before mid bytes held
    → Holds mid after (held ++ more) later → Holds before after (bytes ++ more) later
Holds-append before mid after bytes held more later first second =
    Holds-wrote before mid after (bytes ++ more) (held ++ more) later (Holds-more more first) second

-- a write failed
pub Holds-fails : (before mid after : WriterState) (bytes held : List ℕ) → Holds before mid bytes held
    → AppendsFront mid after held → AppendsFront before after bytes
Holds-fails before mid after bytes held first second = record {
  front = first.written ++ second.front;
  rest = second.rest;
  whole = rw (first.whole, second.whole) (sym (append_assoc first.written second.front second.rest));
  written = Appends-append before mid after first.written second.front first.appended second.written;
}

pub Holds-fails_with : (before mid after : WriterState) (bytes held more : List ℕ) → Holds before mid bytes held
    → AppendsFront mid after (held ++ more) → AppendsFront before after (bytes ++ more)
Holds-fails_with before mid after bytes held more first second =
    Holds-fails before mid after (bytes ++ more) (held ++ more) (Holds-more more first) second

-- what was still held was written
pub Holds-rest : (before mid after : WriterState) (bytes held : List ℕ) → Holds before mid bytes held
    → Appends mid.contents after.contents held → Appends before.contents after.contents bytes
Holds-rest before mid after bytes held first wrote =
    rw first.whole (Appends-append before mid after first.written held first.appended wrote)
