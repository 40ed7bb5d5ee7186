-- The steps of READLINK, READ and READDIR.
use Rattle.std.specs.Prelude.{ℕ, nat_lt, List, [], ◌∷◌, ◌++◌, map}
use Rattle.rpc_msg.specs.declared.cred.Cred.{Cred}
use Rattle.fs_rules.specs.declared.file.File.{File}
use Rattle.fs_rules.specs.Reading.{read_checks, read_dir_checks, read_link_checks}
use Rattle.fs_checks.specs.Rows.{read_dir_row}
use Rattle.node_cache.specs.declared.held.Held.{Held}
use Rattle.plan_rules.specs.Changes as changes
use Rattle.plan_rules.specs.Changes.{change_steps}
use Rattle.plan_rules.specs.Names.{list_steps}
use Rattle.plan_rules.specs.Orders.{directory_check, handle_steps}
use Rattle.plan_rules.specs.Steps.{Step, Checks}
use Rattle.plan_rules.specs.Told.{at_handle}
use Rattle.content_laws.specs.Answers.{given_of}

-- those of a live file with this number, behind the one that looks at its record
abbrev pub link_steps : Held → ℕ → ℕ → File → List Step
link_steps held start n f = map Checks (read_link_checks f) ++ change_steps held start (changes.reads n (nat_lt 0 f.size))

abbrev pub part_steps : Held → ℕ → ℕ → ℕ → Cred → ℕ → File → List Step
part_steps held start offset count cred n f =
    map Checks (read_checks f cred) ++ change_steps held start (changes.reads n (nat_lt 0 (given_of f.size offset count)))

abbrev pub dir_steps : Held → Cred → ℕ → File → List Step
dir_steps held cred n f = map Checks (read_dir_row f cred) ++ list_steps held n

-- all of them
abbrev pub read_link_steps : Held → ℕ → List ℕ → List Step
read_link_steps held start file = handle_steps held file ++ at_handle held file [] (link_steps held start)

abbrev pub read_steps : Held → ℕ → List ℕ → ℕ → ℕ → Cred → List Step
read_steps held start file offset count cred = handle_steps held file ++ at_handle held file [] (part_steps held start offset count cred)

abbrev pub read_dir_steps : Held → List ℕ → Cred → List Step
read_dir_steps held dir cred =
    handle_steps held dir
    ++ (Checks (directory_check held dir) ∷ at_handle held dir [] (λ n d. map Checks (read_dir_checks d cred) ++ list_steps held n))
