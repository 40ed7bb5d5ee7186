mod HasLemmas
