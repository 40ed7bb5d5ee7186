use Rattle.note_laws.proofs.SiteLemmas as lemmas
use Rattle.note_laws.proofs.laws.sites_are_many.Goals as goal

pub returns : goal.returns
returns c = lemmas.sites_are_many
