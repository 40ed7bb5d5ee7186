-- A disk stands for one state, and a broken one for none.
use Rattle.std.proofs.Common.{◌≡◌, ℕ, List, [], ◌∷◌, ◌++◌, map, length, Some, None, Result, Ok, inl, inr, refl, sym, ap, subst, ◌∙◌, arith}
use Rattle.std.proofs.lemmas.List.{append-nil}
use Rattle.std.proofs.lemmas.Grind.{same_number_lists}
use Rattle.disk_model.specs.Crash.{Content, Holds}
use Rattle.gate_log.specs.declared.side.Side.{Side}
use Rattle.gate_log.proofs.LawLemmas.{logs_one, logs_damaged}
use Rattle.mini_tx.specs.declared.entry.Entry.{Entry}
use Rattle.mini_tx.specs.EntryGrammar.{entry_spelling}
use Rattle.mini_tx.specs.EntryReading.{entry_of}
use Rattle.mem_rules.specs.declared.setup.Setup.{Setup}
use Rattle.mem_rules.specs.Fit.{IsFit, size_of}
use Rattle.mem_rules.specs.State.{State, opened, after_entry, after}
use Rattle.mem_rules.proofs.ItemLemmas.{read_again}
use Rattle.mem_rules.proofs.ReactionLemmas.{entries_typed}
use Rattle.mem_node.proofs.DiskLemmas.{makes_more}
use Rattle.mem_node.specs.Disk.{AreFit, Makes, Has, IsUnfit, IsBrokenLog}
use Rattle.node_disk.specs.Half.{half_of, image_at, log_at}
use Rattle.mem_node.specs.Laws.{DisksHaveOneState, BrokenDisksHaveNone, CrashImagesStandForStates}

-- ---- entries that were read

abbrev Read : Type 0
Read = Result Entry (Unit {0})

one_ok : (a b : Entry) → ◌≡◌ {A = Read} (Ok a) (Ok b) → a ≡ b
one_ok a b e = cc

heads : (x y : Read) (xs ys : List Read) → x ∷ xs ≡ y ∷ ys → (x ≡ y) × (xs ≡ ys)
heads x y xs ys e = (cc, cc)

abbrev oks : List Entry → List Read
oks entries = map Ok entries

same_entries : (xs ys : List Entry) → oks xs ≡ oks ys → xs ≡ ys
same_entries [] [] e = refl
same_entries [] (y ∷ ys) e = absurd cc
same_entries (x ∷ xs) [] e = absurd cc
same_entries (x ∷ xs) (y ∷ ys) e =
    let parts = heads (Ok x) (Ok y) (oks xs) (oks ys) e in
    ap (λ (z : Entry). z ∷ xs) (one_ok x y parts.0) ∙ ap (λ (zs : List Entry). y ∷ zs) (same_entries xs ys parts.1)

one_made : (s : Setup) (image : List ℕ) (bytes : List (List ℕ)) (a b : State) → Makes s image bytes a → Makes s image bytes b → a ≡ b
one_made s image bytes a b one other =
    one.made ∙ ap (after (opened s.geometry.nodes image)) (same_entries one.entries other.entries (sym one.read ∙ other.read)) ∙ sym other.made

one_image : (s : Setup) (content : Content) (at : ℕ) (a b : List ℕ) → length a ≡ size_of s → length b ≡ size_of s → Holds content at a → Holds content at b → a ≡ b
one_image s content at a b long also held too =
    same_number_lists a b (long ∙ sym also) (λ k below. sym (held.each k below) ∙ too.each k (let size = long ∙ sym also in omega (arith, below, size)))

pub one_state : DisksHaveOneState
one_state s content state other a b =
    let image : a.image ≡ b.image = one_image s content (image_at s (half_of content)) a.image b.image a.has.sized b.has.sized a.has.stored b.has.stored in
    let bytes : a.bytes ≡ b.bytes = logs_one content (log_at (half_of content)) a.bytes b.bytes a.has.log b.has.log in
    one_made s b.image b.bytes state other
    (subst (λ (x : List (List ℕ)). Makes s b.image x state) bytes (subst (λ (x : List ℕ). Makes s x a.bytes state) image a.makes)) b.makes

-- ---- an entry that is unfit

-- the entries of a front, and the one behind it, are those of the whole
record IsSplit (s : Setup) (start : State) (entries : List Entry) (front : List (List ℕ)) (bad : List ℕ) : Type 0 where
  pub before : List Entry
  pub own : Entry
  pub read : map entry_of front ≡ map Ok before
  pub found : entry_of bad ≡ Ok own
  pub fit : IsFit s (after start before) own

split_at : (s : Setup) (start : State) (entries : List Entry) (front : List (List ℕ)) (bad : List ℕ) (rest : List (List ℕ))
    → map entry_of (front ++ bad ∷ rest) ≡ map Ok entries → AreFit s start entries → IsSplit s start entries front bad
split_at s start [] [] bad rest e fit = absurd cc
split_at s start (x ∷ entries) [] bad rest e fit =
    let parts = heads (entry_of bad) (Ok x) (map entry_of rest) (map Ok entries) e in
    record { before = []; own = x; read = refl; found = parts.0; fit = fit.0 }
split_at s start [] (f ∷ front) bad rest e fit = absurd cc
split_at s start (x ∷ entries) (f ∷ front) bad rest e fit =
    let parts = heads (entry_of f) (Ok x) (map entry_of (front ++ bad ∷ rest)) (map Ok entries) e in
    let more = split_at s (after_entry start x) entries front bad rest parts.1 fit.1 in
    record {
      before = x ∷ more.before;
      own = more.own;
      read = ap (λ (y : Read). y ∷ map entry_of front) parts.0 ∙ ap (λ (ys : List Read). Ok x ∷ ys) more.read;
      found = more.found;
      fit = more.fit;
    }

never_unfit : (s : Setup) (base : ℕ) (image : List ℕ) (bytes : List (List ℕ)) (at : ℕ) (state : State) → IsUnfit s base image bytes at → Makes s image bytes state → ⊥
never_unfit s base image bytes at state unfit makes =
    let start = opened s.geometry.nodes image in
    let parts = split_at s start makes.entries unfit.front unfit.bad unfit.rest (ap (λ (xs : List (List ℕ)). map entry_of xs) (sym unfit.split) ∙ makes.read) makes.fit in
    let same : parts.before ≡ unfit.before.entries = same_entries parts.before unfit.before.entries (sym parts.read ∙ unfit.before.read) in
    let there : after start parts.before ≡ unfit.state = ap (after start) same ∙ sym unfit.before.made in
    unfit.unfit parts.own parts.found (subst (λ (t : State). IsFit s t parts.own) there parts.fit)

pub broken_none : BrokenDisksHaveNone
broken_none s content at state (formatted, (image, sized, stored, broken)) stands = go broken
  where
    half : Side
    half = half_of content

    go : IsBrokenLog s content half image at → ⊥
    go (inl damaged) = logs_damaged content (log_at half) at stands.bytes damaged stands.has.log
    go (inr (bytes, held, unfit)) =
        let same : image ≡ stands.image = one_image s content (image_at s half) image stands.image sized stands.has.sized stored stands.has.stored in
        let alike : bytes ≡ stands.bytes = logs_one content (log_at half) bytes stands.bytes held stands.has.log in
        never_unfit s (log_at half) stands.image stands.bytes at state
        (subst (λ (xs : List (List ℕ)). IsUnfit s (log_at half) stands.image xs at) alike (subst (λ (xs : List ℕ). IsUnfit s (log_at half) xs bytes at) same unfit)) stands.makes

-- ---- while an entry is appended

pub crash_states : CrashImagesStandForStates
crash_states s image bytes state e content setup makes fit typed (inl has) = inl (record { image = image; bytes = bytes; has = has; makes = makes })
crash_states s image bytes state None content setup makes fit typed (inr has) = inr (record {
  image = image;
  bytes = bytes;
  has = subst (λ (bs : List (List ℕ)). Has s content image bs) (append-nil bytes) has;
  makes = makes;
})
crash_states s image bytes state (Some e) content setup makes fit typed (inr has) = inr (record {
  image = image;
  bytes = bytes ++ entry_spelling e ∷ [];
  has = has;
  makes = makes_more s image bytes state (entry_spelling e) e makes (read_again e (entries_typed s state e setup fit.0 typed) fit.1) fit.0;
})
