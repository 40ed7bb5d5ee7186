-- The file that a handle names, as what is held tells it.
use Rattle.std.specs.Prelude.{◌≡◌, ℕ, bytes_eq, if◌then◌else◌, List, Option, Some, None, option_map, option_and_then}
use Rattle.fs_layout.specs.declared.attrs.Attrs.{Attrs}
use Rattle.fs_rules.specs.declared.file.File.{File}
use Rattle.fs_rules.specs.Handle.{handle, number_in}
use Rattle.fs_checks.specs.Facts.{facts_by, bare}
use Rattle.node_cache.specs.declared.held.Held.{Held}
use Rattle.node_cache.specs.Cached.{held_of}
use Rattle.plan_rules.specs.Told.{file_of}
use Rattle.plan_looks.specs.declared.handles.LiveFile.{LiveFile}

-- by the record of the handle's number
abbrev pub file_by : List ℕ → Attrs → Option File
file_by name a =
    option_and_then (λ f. if bytes_eq name (handle (number_in name) f.generation) then Some f else None) (option_map bare (facts_by a))

pub record IsLiveBy (name : List ℕ) (a : Attrs) (f : LiveFile) : Type 0 where
  pub number : f.number ≡ number_in name
  pub attrs : f.attrs ≡ a
  pub facts : facts_by a ≡ Some f.facts
  pub file : file_by name a ≡ Some (bare f.facts)

-- a record is held, and tells the live file that a handle names
pub record IsLive (held : Held) (name : List ℕ) (f : LiveFile) : Type 0 where
  pub number : f.number ≡ number_in name
  pub record_is : option_map (λ e. e.attrs) (held_of f.number held.entries) ≡ Some f.attrs
  pub facts : facts_by f.attrs ≡ Some f.facts
  pub file : file_of held name ≡ Some (bare f.facts)
