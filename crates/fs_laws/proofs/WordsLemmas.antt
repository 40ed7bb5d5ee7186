-- Every call leaves numbers that fit their words.
use Rattle.std.proofs.Common.{◌≡◌, ℕ, ◌+◌, ◌<◌, Bool, true, false, ◌||◌, List, [], ◌∷◌, ◌++◌, Option, Some, None, refl, sym, subst, ◌∙◌, arith}
use Rattle.std.specs.Prelude.{◌-◌, ◌^◌, ◌==◌, nat_lt, IfSome, if◌then◌else◌, option_and_then}
use Rattle.std.specs.List.{AllByRecursion, list_any}
use Rattle.std.specs.Option.{option_map_or}
use Rattle.std.specs.FinMap as table
use Rattle.std.specs.FinMap.{get-empty}
use Rattle.std.proofs.lemmas.Bool.{eqb-false, ltb-true, true≢false}
use Rattle.std.proofs.lemmas.Option.{none-some}
use Rattle.rpc_msg.specs.declared.cred.Cred.{Cred}
use Rattle.nfs_proto.specs.declared.call.Call.{Call}
use Rattle.nfs_proto.specs.declared.call.Call.TheVariants.{Null, GetAttr, SetAttr, Root, Lookup, ReadLink, Read, WriteCache, Write, Create, Remove, Rename, Link, SymLink, MakeDir, RemoveDir, ReadDir, StatFs}
use Rattle.nfs_proto.specs.declared.sattr.Sattr.{Sattr}
use Rattle.nfs_proto.specs.declared.stamp.Stamp.{Stamp}
use Rattle.nfs_proto.specs.Laws.{IsTyped}
use Rattle.nfs_proto.specs.Types.{sattr_words}
use Rattle.sfs_xdr.specs.Items.{AreWords}
use Rattle.fs_rules.specs.declared.content.Content.{Content}
use Rattle.fs_rules.specs.declared.file.File.{File}
use Rattle.fs_rules.specs.declared.kept.Kept.{Kept}
use Rattle.fs_rules.specs.declared.plain_tree.PlainTree.{PlainTree}
use Rattle.fs_rules.specs.Handle.{number_in}
use Rattle.fs_rules.specs.File.{is_directory, slots_of}
use Rattle.fs_rules.specs.Slots.{file_named}
use Rattle.fs_rules.specs.Statuses.{Check, first_failure}
use Rattle.fs_rules.specs.Edits.{Edit, Changed, Made, Freed, changed_at, edit, edited, is_spent, limits}
use Rattle.fs_rules.specs.Arguments.{argument_checks, file_of}
use Rattle.fs_rules.specs.Attributes.{chosen_moment, is_set, is_moment_set, is_server_time, set_attr_edits, sets_something, with_attributes}
use Rattle.fs_rules.specs.Writing.{is_nothing, with_bytes, write_edits}
use Rattle.fs_rules.specs.Making.{create_edits, create_edits_by, existing_edits, make_dir_edits, new_file, new_number, size_alone, sym_link_edits, unset}
use Rattle.fs_rules.specs.Names.{Move, directory_edits, is_same, link_edits, loses_link, move_edits, move_of, named_file, remove_dir_edits, remove_dir_edits_by, remove_edits, remove_edits_by, replaced_edits, unlinked}
use Rattle.fs_rules.specs.Numbers.{kept_at}
use Rattle.fs_rules.specs.Good.{IsGood}
use Rattle.fs_rules.specs.Respond.{checks, decided, edits_of, move_by, own_checks, respond}
use Rattle.fs_laws.specs.Words.{IsMoment, FitsWords, IsKeptInWords, IsInWords, IsCaller, FreshIsInWords, WordsStayWords}
use Rattle.fs_laws.proofs.StatusLemmas.{ArePassed, passed, passed_back, not_so}
use Rattle.fs_laws.proofs.ToldLemmas.{live}
use Rattle.fs_laws.proofs.EditLemmas.{left_holds, put_holds, within_limits}
use Rattle.fs_laws.proofs.NumberLemmas.{IsFreeNumber, new_number_free}

-- ---- edits

-- the file of an edit fits its words
abbrev FitsEdit : Edit → Type 0
FitsEdit (Changed n f) = FitsWords f
FitsEdit (Made n f) = FitsWords f
FitsEdit (Freed n f) = FitsWords f

abbrev AllFit : List Edit → Type 0
AllFit es = AllByRecursion FitsEdit es

neither : (a b : Bool) → (a || b) ≡ false → (a ≡ false) × (b ≡ false)
neither true b is = absurd (true≢false is)
neither false b is = (refl, is)

-- a change number that is not the last one can rise
rises : (change : ℕ) → change < 2 ^ 64 → (change == 2 ^ 64 - 1) ≡ false → change + 1 < 2 ^ 64
rises change below other = let apart = eqb-false change (2 ^ 64 - 1) other in omega (arith, below, apart)

changed_fits : (now : Stamp) (f : File) → IsMoment now → FitsWords f → (f.change == 2 ^ 64 - 1) ≡ false → FitsWords (changed_at now f)
changed_fits now f moment fits other = (fits.0, fits.1, fits.2, rises f.change fits.3 other, fits.4, fits.5, moment)

edit_words : (now : Stamp) (t : PlainTree) (e : Edit) → IsMoment now → FitsEdit e → is_spent e ≡ false → IsInWords t → IsInWords (edit now t e)
edit_words now t (Changed n f) moment fits other words = record {
  files = put_holds (λ n f. FitsWords f) t.files n (changed_at now f) words.files (changed_fits now f moment fits other);
  freed = words.freed;
}
edit_words now t (Made n f) moment fits other words = record {
  files = put_holds (λ n f. FitsWords f) t.files n f words.files fits;
  freed = left_holds (λ n k. IsKeptInWords k) t.freed n (λ q k apart is. words.freed q k is);
}
edit_words now t (Freed n f) moment fits other words = record {
  files = left_holds (λ n f. FitsWords f) t.files n (λ q g apart is. words.files q g is);
  freed = put_holds (λ n k. IsKeptInWords k) t.freed n (record { generation = f.generation; change = f.change + 1 }) words.freed (fits.2, rises f.change fits.3 other);
}

edited_words : (now : Stamp) (t : PlainTree) (es : List Edit) → IsMoment now → AllFit es → list_any is_spent es ≡ false → IsInWords t → IsInWords (edited now t es)
unfolding edited
edited_words now t [] moment fit other words = words
edited_words now t (e ∷ es) moment fit other words =
    let both = neither (is_spent e) (list_any is_spent es) other in
    edited_words now (edit now t e) es moment fit.1 both.1 (edit_words now t e moment fit.0 both.0 words)

none_spent : (t : PlainTree) (start : ℕ) (es : List Edit) → ArePassed (limits t start es) → list_any is_spent es ≡ false
unfolding limits
none_spent t start es passed = not_so 27 (list_any is_spent es) passed.0

-- ---- parts of edits

number_if : (c : Bool) (a b n : ℕ) → a < n → b < n → (if c then a else b) < n
number_if true a b n fa fb = fa
number_if false a b n fa fb = fb

moment_if : (c : Bool) (a b : Stamp) → IsMoment a → IsMoment b → IsMoment (if c then a else b)
moment_if true a b fa fb = fa
moment_if false a b fa fb = fb

edit_if : (c : Bool) (d e : Edit) → FitsEdit d → FitsEdit e → FitsEdit (if c then d else e)
edit_if true d e fd fe = fd
edit_if false d e fd fe = fe

edits_if : (c : Bool) (ds es : List Edit) → AllFit ds → AllFit es → AllFit (if c then ds else es)
edits_if true ds es fd fe = fd
edits_if false ds es fd fe = fe

edits_both : (ds es : List Edit) → AllFit ds → AllFit es → AllFit (ds ++ es)
edits_both [] es fd fe = fe
edits_both (d ∷ ds) es fd fe = (fd.0, edits_both ds es fd.1 fe)

-- the edits of what may be there
edits_or : {X : Type 0} (t : PlainTree) (start : ℕ) (said : X → List Edit) (o : Option X) → ((x : X) → o ≡ Some x → ArePassed (limits t start (said x)) → AllFit (said x))
    → ArePassed (limits t start (option_map_or said o [])) → AllFit (option_map_or said o [])
edits_or t start said None each passed = tt
edits_or t start said (Some x) each passed = each x refl passed

found_or : {X Y : Type 0} (P : Y → Type 0) (said : X → Option Y) (o : Option X) → ((x : X) → o ≡ Some x → IfSome (said x) P) → IfSome (option_map_or said o None) P
found_or P said None each = tt
found_or P said (Some x) each = each x refl

of_found : {X : Type 0} (P : X → Type 0) (o : Option X) (x : X) → IfSome o P → o ≡ Some x → P x
of_found P o x some is = subst (λ p. IfSome p P) is some

-- ---- files

-- what is set of a file
set_fits : (now : Stamp) (set : Sattr) (f : File) → IsMoment now → AreWords (sattr_words set) → FitsWords f → FitsWords (with_attributes now set f)
unfolding with_attributes
set_fits now set f moment w fits = (
  number_if (is_set set.uid) set.uid f.uid (2 ^ 32) w.1.0 fits.0,
  number_if (is_set set.gid) set.gid f.gid (2 ^ 32) w.1.1.0 fits.1,
  fits.2,
  fits.3,
  moment_if (is_server_time set.mtime || is_server_time set.atime) now (chosen_moment set.atime f.atime) moment
      (moment_if (is_moment_set set.atime) set.atime f.atime (w.1.1.1.1.0, w.1.1.1.1.1.0) fits.4),
  moment_if (is_server_time set.mtime) now (if is_moment_set set.mtime then set.mtime else if is_set set.size then now else f.mtime) moment
      (moment_if (is_moment_set set.mtime) set.mtime (if is_set set.size then now else f.mtime) (w.1.1.1.1.1.1.0, w.1.1.1.1.1.1.1.0)
      (moment_if (is_set set.size) now f.mtime moment fits.5)),
  fits.6,
)

-- nothing, or the size alone
alone_words : (set : Sattr) → AreWords (sattr_words set) → AreWords (sattr_words (size_alone set))
alone_words set w = let last : 2 ^ 32 - 1 < 2 ^ 32 = omega arith in (last, (last, (last, (w.1.1.1.0, (last, (last, (last, (last, tt))))))))

unset_words : AreWords (sattr_words unset)
unset_words = let last : 2 ^ 32 - 1 < 2 ^ 32 = omega arith in (last, (last, (last, (last, (last, (last, (last, (last, tt))))))))

-- a new file
new_fits : (kept : Kept) (now : Stamp) (set : Sattr) (cred : Cred) (mode links size : ℕ) (content : Content) → IsMoment now → AreWords (sattr_words set) → IsCaller cred
    → nat_lt kept.generation (2 ^ 32 - 1) ≡ true → nat_lt kept.change (2 ^ 64 - 1) ≡ true → FitsWords (new_file kept now set cred mode links size content)
unfolding new_file
new_fits kept now set cred mode links size content moment w caller generation change = (
  number_if _ set.uid cred.uid (2 ^ 32) w.1.0 caller.0,
  number_if _ set.gid cred.gid (2 ^ 32) w.1.1.0 caller.1,
  (let less = ltb-true kept.generation (2 ^ 32 - 1) generation in omega (arith, less)),
  (let less = ltb-true kept.change (2 ^ 64 - 1) change in omega (arith, less)),
  moment_if (is_moment_set set.atime) set.atime now (w.1.1.1.1.0, w.1.1.1.1.1.0) moment,
  moment_if (is_moment_set set.mtime) set.mtime now (w.1.1.1.1.1.1.0, w.1.1.1.1.1.1.1.0) moment,
  moment,
)

-- a directory whose names changed
renamed_fits : (now : Stamp) (d : File) → IsMoment now → FitsWords d
    → (d.uid < 2 ^ 32) × (d.gid < 2 ^ 32) × (d.generation < 2 ^ 32) × (d.change < 2 ^ 64) × IsMoment d.atime × IsMoment now × IsMoment d.ctime
renamed_fits now d moment fits = (fits.0, fits.1, fits.2, fits.3, fits.4, moment, fits.6)

loses_fits : (m : ℕ) (f : File) → FitsWords f → FitsEdit (loses_link m f)
loses_fits m f fits = edit_if (nat_lt 1 f.links) (Changed m (unlinked 1 f)) (Freed m f) fits fits

-- ---- RENAME

-- the files of a move fit their words
record FitsMove (m : Move) : Type 0 where
  from : FitsWords m.from_dir
  to : FitsWords m.to_dir
  source : FitsWords m.source_file
  replaced : IfSome m.replaced (λ r. FitsWords r.1)

module _ (t : PlainTree) (words : IsInWords t) where
  named_fits : (d : File) (name : List ℕ) → IfSome {T = ℕ × File} (named_file t d name) (λ r. FitsWords r.1)
  named_fits d name = go (file_named (slots_of d.content) name)
    where
      go : (o : Option ℕ) → IfSome {T = ℕ × File} (option_and_then (λ n. option_map_or (λ f. Some (n, f)) (table.get t.files n) None) o) (λ r. FitsWords r.1)
      go None = tt
      go (Some n) = found_or (λ (r : ℕ × File). FitsWords r.1) (λ (f : File). Some (n, f)) (table.get t.files n) (λ f is. words.files n f is)

  live_fits : (name : List ℕ) (f : File) → file_of t name ≡ Some f → FitsWords f
  live_fits name f is = words.files (number_in name) f (live t name f is)

  move_fits : (from from_name to to_name : List ℕ) → IfSome (move_by t from from_name to to_name) FitsMove
  move_fits from from_name to to_name =
      found_or FitsMove (λ (c : File). option_map_or (λ (d : File). move_of t (number_in from) c from_name (number_in to) d to_name) (file_of t to) None) (file_of t from)
      (λ c is_c. found_or FitsMove (λ (d : File). move_of t (number_in from) c from_name (number_in to) d to_name) (file_of t to)
      (λ d is_d. found_or FitsMove _ (named_file t c from_name)
      (λ s is_s. record {
        from = live_fits from c is_c;
        to = live_fits to d is_d;
        source = of_found (λ (r : ℕ × File). FitsWords r.1) (named_file t c from_name) s (named_fits c from_name) is_s;
        replaced = named_fits d to_name;
      })))

directories_fit : (now : Stamp) (m : Move) → IsMoment now → FitsMove m → AllFit (directory_edits now m)
directories_fit now m moment fits =
    edits_if (m.from == m.to) _ _
    (renamed_fits now m.to_dir moment fits.to, tt)
    (renamed_fits now m.from_dir moment fits.from, (renamed_fits now m.to_dir moment fits.to, tt))

replaced_fit : (m : Move) → FitsMove m → AllFit (replaced_edits m)
replaced_fit m fits = go m.replaced fits.replaced
  where
    go : (o : Option (ℕ × File)) → IfSome o (λ r. FitsWords r.1)
        → AllFit (option_map_or (λ r. (if is_directory r.1.content then Freed r.0 r.1 else loses_link r.0 r.1) ∷ []) o [])
    go None none = tt
    go (Some r) some = (edit_if (is_directory r.1.content) (Freed r.0 r.1) (loses_link r.0 r.1) some (loses_fits r.0 r.1 some), tt)

moves_fit : (now : Stamp) (m : Move) → IsMoment now → FitsMove m → AllFit (move_edits now m)
unfolding move_edits
moves_fit now m moment fits =
    edits_if (is_same m) [] _ tt
    (edits_both (directory_edits now m) _ (directories_fit now m moment fits) (fits.source, replaced_fit m fits))

-- ---- all calls

module _ (t : PlainTree) (good : IsGood t) (words : IsInWords t) (now : Stamp) (moment : IsMoment now) (start : ℕ) where
  -- what is said of the file that a handle names
  at_fit : (name : List ℕ) (said : ℕ → File → List Edit) → ((f : File) → FitsWords f → ArePassed (limits t start (said (number_in name) f)) → AllFit (said (number_in name) f))
      → ArePassed (limits t start (option_map_or (said (number_in name)) (file_of t name) [])) → AllFit (option_map_or (said (number_in name)) (file_of t name) [])
  at_fit name said each = edits_or t start (said (number_in name)) (file_of t name) (λ f is. each f (live_fits t words name f is))

  -- where a file is made, its number can rise
  made_free : (n : ℕ) (d f : File) (m : ℕ) → ArePassed (limits t start (Changed n d ∷ Made m f ∷ [])) → IsFreeNumber t (new_number t start)
  made_free n d f m passed = new_number_free t start good.geometry (within_limits t start (Changed n d ∷ Made m f ∷ []) passed).free

  new_one : (n : ℕ) (d f : File) (m : ℕ) (set : Sattr) (cred : Cred) (mode links size : ℕ) (content : Content) → ArePassed (limits t start (Changed n d ∷ Made m f ∷ []))
      → AreWords (sattr_words set) → IsCaller cred → FitsWords (new_file (kept_at t (new_number t start)) now set cred mode links size content)
  new_one n d f m set cred mode links size content passed w caller =
      let free = made_free n d f m passed in
      new_fits (kept_at t (new_number t start)) now set cred mode links size content moment w caller free.rises free.changes

  create_fit : (o : Option ℕ) (n : ℕ) (d : File) (name : List ℕ) (set : Sattr) (cred : Cred) → FitsWords d → AreWords (sattr_words set) → IsCaller cred
      → ArePassed (limits t start (create_edits_by t (new_number t start) o n d name set cred now)) → AllFit (create_edits_by t (new_number t start) o n d name set cred now)
  create_fit None n d name set cred fits w caller passed =
      (renamed_fits now d moment fits, (new_one n _ _ _ set cred _ _ _ _ passed w caller, tt))
  create_fit (Some m) n d name set cred fits w caller passed =
      edits_or t start (existing_edits now set m) (table.get t.files m)
      (λ f is within. edits_if (is_set set.size) _ [] (set_fits now (size_alone set) f moment (alone_words set w) (words.files m f is), tt) tt) passed

  remove_fit : (o : Option ℕ) (n : ℕ) (d : File) (name : List ℕ) → FitsWords d → AllFit (remove_edits_by t o n d name now)
  remove_fit None n d name fits = tt
  remove_fit (Some m) n d name fits = (renamed_fits now d moment fits, go (table.get t.files m) refl)
    where
      go : (o : Option File) → table.get t.files m ≡ o → AllFit (option_map_or (λ f. loses_link m f ∷ []) o [])
      go None is = tt
      go (Some f) is = (loses_fits m f (words.files m f is), tt)

  remove_dir_fit : (o : Option ℕ) (n : ℕ) (d : File) (name : List ℕ) → FitsWords d → AllFit (remove_dir_edits_by t o n d name now)
  remove_dir_fit None n d name fits = tt
  remove_dir_fit (Some m) n d name fits = (renamed_fits now d moment fits, go (table.get t.files m) refl)
    where
      go : (o : Option File) → table.get t.files m ≡ o → AllFit (option_map_or (λ f. Freed m f ∷ []) o [])
      go None is = tt
      go (Some f) is = (words.files m f is, tt)

  edits_fit : (call : Call) (cred : Cred) → IsTyped call → IsCaller cred → ArePassed (limits t start (edits_of t call cred now start)) → AllFit (edits_of t call cred now start)
  unfolding set_attr_edits write_edits with_bytes create_edits make_dir_edits sym_link_edits link_edits remove_edits remove_dir_edits
  edits_fit Null cred typed caller passed = tt
  edits_fit (GetAttr file) cred typed caller passed = tt
  edits_fit (SetAttr file set) cred typed caller passed =
      at_fit file.0 (set_attr_edits now set)
      (λ f fits within. edits_if (sets_something set) _ [] (set_fits now set f moment typed.1 fits, tt) tt) passed
  edits_fit Root cred typed caller passed = tt
  edits_fit (Lookup dir name) cred typed caller passed = tt
  edits_fit (ReadLink file) cred typed caller passed = tt
  edits_fit (Read file offset count total) cred typed caller passed = tt
  edits_fit WriteCache cred typed caller passed = tt
  edits_fit (Write file begin offset total bytes) cred typed caller passed =
      at_fit file.0 (write_edits now offset bytes)
      (λ f fits within. edits_if (is_nothing bytes) [] _ tt (renamed_fits now f moment fits, tt)) passed
  edits_fit (Create dir name set) cred typed caller passed =
      at_fit dir.0 (λ n d. create_edits t start n d name set cred now)
      (λ d fits within. create_fit (file_named (slots_of d.content) name) (number_in dir.0) d name set cred fits typed.1 caller within) passed
  edits_fit (Remove dir name) cred typed caller passed =
      at_fit dir.0 (λ n d. remove_edits t n d name now)
      (λ d fits within. remove_fit (file_named (slots_of d.content) name) (number_in dir.0) d name fits) passed
  edits_fit (Rename from from_name to to_name) cred typed caller passed = go (move_by t from.0 from_name to.0 to_name) (move_fits t words from.0 from_name to.0 to_name)
    where
      go : (o : Option Move) → IfSome o FitsMove → AllFit (option_map_or (move_edits now) o [])
      go None none = tt
      go (Some m) fits = moves_fit now m moment fits
  edits_fit (Link file dir name) cred typed caller passed =
      at_fit file.0 (λ m f. option_map_or (λ d. link_edits m f (number_in dir.0) d name now) (file_of t dir.0) [])
      (λ f fits_f within. at_fit dir.0 (λ n d. link_edits (number_in file.0) f n d name now)
      (λ d fits within_d. (renamed_fits now d moment fits, (fits_f, tt))) within) passed
  edits_fit (SymLink dir name path set) cred typed caller passed =
      at_fit dir.0 (λ n d. sym_link_edits t start n d name path cred now)
      (λ d fits within. (renamed_fits now d moment fits, (new_one (number_in dir.0) _ _ _ unset cred _ _ _ _ within unset_words caller, tt))) passed
  edits_fit (MakeDir dir name set) cred typed caller passed =
      at_fit dir.0 (λ n d. make_dir_edits t start n d name set cred now)
      (λ d fits within. (renamed_fits now d moment fits, (new_one (number_in dir.0) _ _ _ set cred _ _ _ _ within typed.1 caller, tt))) passed
  edits_fit (RemoveDir dir name) cred typed caller passed =
      at_fit dir.0 (λ n d. remove_dir_edits t n d name now)
      (λ d fits within. remove_dir_fit (file_named (slots_of d.content) name) (number_in dir.0) d name fits) passed
  edits_fit (ReadDir dir cookie count) cred typed caller passed = tt
  edits_fit (StatFs file) cred typed caller passed = tt

limits_passed : (t : PlainTree) (call : Call) (cred : Cred) (now : Stamp) (start : ℕ) → first_failure (checks t call cred start (edits_of t call cred now start)) ≡ None
    → ArePassed (limits t start (edits_of t call cred now start))
unfolding checks
limits_passed t call cred now start e =
    passed_back (own_checks t call cred) (limits t start (edits_of t call cred now start))
    (passed_back (argument_checks t call cred) (own_checks t call cred ++ limits t start (edits_of t call cred now start)) (passed _ e))

pub words_stay_words : WordsStayWords
unfolding respond
words_stay_words t call cred now start good words typed caller moment = go (first_failure (checks t call cred start (edits_of t call cred now start))) refl
  where
    go : (c : Check) → first_failure (checks t call cred start (edits_of t call cred now start)) ≡ c → IsInWords (decided c t call now (edits_of t call cred now start)).tree
    go (Some status) is = words
    go None is =
        let within = limits_passed t call cred now start is in
        edited_words now t (edits_of t call cred now start) moment (edits_fit t good words now moment start call cred typed caller within)
        (none_spent t start (edits_of t call cred now start) within) words

-- ---- the beginning

pub fresh_in_words : FreshIsInWords
fresh_in_words g = record {
  files = put_holds (λ n f. FitsWords f) table.empty 1 _ (λ n f is. absurd (none-some f (sym (get-empty _ n) ∙ is)))
      (omega arith, omega arith, omega arith, omega arith, (omega arith, omega arith), (omega arith, omega arith), (omega arith, omega arith));
  freed = λ n k is. absurd (none-some k (sym (get-empty _ n) ∙ is));
}
