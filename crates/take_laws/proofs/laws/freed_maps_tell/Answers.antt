use Rattle.take_laws.proofs.MapLemmas as lemma
use Rattle.take_laws.proofs.laws.freed_maps_tell.Goals as goal

pub returns : goal.returns
returns c = lemma.freed_maps_tell c.fronts_are_put.ensures c.exchanges_are_owners.ensures
