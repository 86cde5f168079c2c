use Rattle.std.proofs.Common.{◌≤◌, rules, arith}
use Rattle.dcc_saved.proofs.BitsLemmas.{bits_fit, bits_even, one_bit_fits, bits_of_kind, fits_of_kind}
use Rattle.dcc_saved.proofs.decoder_words.+numbers_from.Goals as goal

pub returns-in_ok-others-in-Some-clause-fits : goal.returns-in_ok-others-in-Some-clause-fits
returns-in_ok-others-in-Some-clause-fits t c =
    let wide = c.in_ok-in_order-in-Some.ensures.ascends in
    let ordered : c.args.least ≤ c.in_ok-n-in-Some.n = omega (arith, wide, c.from.ensures, c.from-in-Some.ensures) in
    bits_fit _ _ _ _ _ (bits_of_kind c.args.numbered) ordered c.in_ok-others-in-Some.ensures.fits

pub returns-in_ok-others-in-Some-clause-even : goal.returns-in_ok-others-in-Some-clause-even
returns-in_ok-others-in-Some-clause-even t c = search (rules, bits_even, fits_of_kind)

pub returns-in-None-clause-fits : goal.returns-in-None-clause-fits
returns-in-None-clause-fits t c = one_bit_fits _ _ c.requires
