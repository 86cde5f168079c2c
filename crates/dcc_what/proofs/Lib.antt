pub mod LinesLemmas
pub mod KindLemmas
pub mod SaidLemmas
