mod AskedLemmas
