use Rattle.std.proofs.Common.{subst, ◌∙◌, nat_eq}
use Rattle.std.proofs.lemmas.List.{length-map}
use Rattle.std.specs.List.{IsDistinct}
use Rattle.node_cache.specs.Cached.{Cached, IsBounded}
use Rattle.node_cache.proofs.KeptLemmas.{numbers_are}
use Rattle.node_cache.proofs.cache.Cache.len.Goals as goal

pub returns-clause-bounded : goal.returns-clause-bounded
returns-clause-bounded c =
    subst (λ (k : Cached). IsBounded k.files) c.self.view_is (record {
      few = rw (length-map c.self.inside.files.entries (λ e. e.1)) c.self.invariant.few;
      apart = subst (IsDistinct nat_eq) (c.self.invariant.keyed ∙ numbers_are c.self.inside.files.entries) c.len.ensures.valid.0;
    })
