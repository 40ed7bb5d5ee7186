-- What is told of a file that got a name.
use Rattle.std.proofs.Common.{◌≡◌, ℕ, true, false, List, [], ◌∷◌, Option, Some, None, refl, ap, ◌∙◌}
use Rattle.std.specs.FinMap.{get}
use Rattle.rpc_msg.specs.declared.cred.Cred.{Cred}
use Rattle.nfs_proto.specs.declared.handle.Handle.{Handle}
use Rattle.nfs_proto.specs.declared.answer.Answer.TheVariants.{Fault}
use Rattle.nfs_proto.specs.declared.stamp.Stamp.{Stamp}
use Rattle.fs_rules.specs.declared.entry.Entry.{Entry}
use Rattle.fs_rules.specs.declared.file.File.{File}
use Rattle.fs_rules.specs.declared.plain_tree.PlainTree.{PlainTree}
use Rattle.fs_rules.specs.Handle.{number_in}
use Rattle.fs_rules.specs.File.{is_directory, slots_of}
use Rattle.fs_rules.specs.Reading.{lookup_answer}
use Rattle.fs_rules.specs.Slots.{file_named, put_name}
use Rattle.fs_rules.specs.Statuses.{stale}
use Rattle.fs_rules.specs.Arguments.{file_of, at_file, is_dots}
use Rattle.fs_rules.specs.Edits.{Changed, Made, changed_at, edited}
use Rattle.fs_edits.specs.Giving.{receiving}
use Rattle.fs_tree.specs.Creating.{found_of}
use Rattle.fs_decisions.proofs.RowLemmas.{named_there}
use Rattle.fs_edits.proofs.MakingLemmas.{apart}
use Rattle.fs_tree.proofs.MadeLemmas.{still_named, looked_up_found, changed_there, made_found}
use Rattle.fs_tree.proofs.NewNameLemmas.{slots_with, put_named}

-- a look-up of the name in its directory tells of the file that was made
module _ (t : PlainTree) (dir : Handle) (name : List ℕ) (cred : Cred) (now : Stamp) (d : File) (m : ℕ) (there : file_of t dir.0 ≡ Some d) (plain : is_dots name ≡ false)
    (absent : file_named (slots_of d.content) name ≡ None) (of_directory : is_directory d.content ≡ true) (dead : get t.files m ≡ None) (links : ℕ) (f : File) where
  abbrev d' : File
  d' = receiving now name m links d

  abbrev u : PlainTree
  u = edited now t (Changed (number_in dir.0) d' ∷ Made m f ∷ [])

  pub told_new : at_file u dir.0 (Fault stale) (λ n d. lookup_answer u n d name) ≡ found_of m f
  told_new =
      looked_up_found u dir.0 name (changed_at now d') m
      (still_named t u dir.0 d (changed_at now d') there (named_there t dir.0 d there)
      (changed_there now t (number_in dir.0) m d' f (apart t (number_in dir.0) m d (named_there t dir.0 d there) dead)) refl)
      plain
      (ap (λ (s : List (Option Entry)). file_named s name) (slots_with (put_name (slots_of d.content) (record { name = name; file = m })) d.content of_directory)
      ∙ put_named (slots_of d.content) (record { name = name; file = m }) absent)
      ∙ made_found now t (number_in dir.0) m d' f
