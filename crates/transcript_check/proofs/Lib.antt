mod CheckLemmas
