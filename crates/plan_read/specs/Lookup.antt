-- The steps of LOOKUP.
use Rattle.std.specs.Prelude.{ℕ, List, [], ◌∷◌, ◌++◌, map, Option, is_none}
use Rattle.rpc_msg.specs.declared.cred.Cred.{Cred}
use Rattle.fs_rules.specs.Arguments.{looked_up, name_check}
use Rattle.fs_rules.specs.Statuses.{fails_where, noent}
use Rattle.node_cache.specs.declared.held.Held.{Held}
use Rattle.plan_rules.specs.Names.{record_steps}
use Rattle.plan_rules.specs.Orders.{access_check, directory_check, handle_steps}
use Rattle.plan_rules.specs.Steps.{Step, Checks}

-- those of the directory, in which the caller searches
abbrev pub directory_steps : Held → List ℕ → List ℕ → Cred → List Step
directory_steps held dir name cred =
    handle_steps held dir ++ map Checks (directory_check held dir ∷ name_check (looked_up dir name) ∷ access_check held cred (looked_up dir name) ∷ [])

-- those behind the search
abbrev pub behind_search : Option ℕ → List Step
behind_search found = Checks (fails_where noent (is_none found)) ∷ record_steps found
