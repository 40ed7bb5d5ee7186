-- Checks of a live file, and looks at its chaining blocks.
use Rattle.std.proofs.Common.{◌≡◌, ℕ, suc, ◌+◌, ◌-◌, ◌<◌, false, List, [], ◌∷◌, ◌++◌, map, Option, Some, None, Result, Ok, Err, refl, sym, ap, subst, ◌∙◌, arith}
use Rattle.std.specs.Prelude.{not, option_map}
use Rattle.std.specs.Option.{option_map_or}
use Rattle.rpc_msg.specs.declared.cred.Cred.{Cred}
use Rattle.fs_layout.specs.declared.attrs.Attrs.{Attrs}
use Rattle.fs_rules.specs.declared.file.File.{File}
use Rattle.fs_rules.specs.File.{is_directory}
use Rattle.fs_rules.specs.Handle.{number_in}
use Rattle.fs_rules.specs.Lists.{below}
use Rattle.fs_rules.specs.Reading.{read_dir_checks}
use Rattle.fs_rules.specs.Statuses.{Check, fails_where, first_failure, notdir}
use Rattle.fs_content.proofs.IndexLemmas.{made_split}
use Rattle.fs_checks.specs.declared.facts.Facts.{Facts}
use Rattle.fs_checks.specs.declared.kind.Kind.{Kind}
use Rattle.fs_checks.specs.declared.status.Status.{Status}
use Rattle.fs_checks.specs.Facts.{bare, facts_by, kind_by}
use Rattle.fs_checks.specs.Verdict.{verdict}
use Rattle.fs_checks.proofs.FactsLemmas.{failed, passed}
use Rattle.node_cache.specs.declared.held.Held.{Held}
use Rattle.plan_rules.specs.declared.look.Look.{Look}
use Rattle.plan_rules.specs.declared.look.Look.TheVariants.{Chaining}
use Rattle.plan_rules.specs.Names.{list_steps}
use Rattle.plan_rules.specs.Orders.{handle_steps}
use Rattle.plan_rules.specs.Steps.{Step, Looks, Checks}
use Rattle.plan_rules.specs.Told.{at_handle, file_of}
use Rattle.plan_looks.specs.declared.handles.LiveFile.{LiveFile}
use Rattle.plan_looks.specs.declared.stop.Stop.{Stop}
use Rattle.plan_looks.specs.declared.stop.Stop.TheVariants.{Need, Refused, NoMemory}
use Rattle.plan_looks.specs.Goes.{Ends, Goes, GoesOn}
use Rattle.plan_looks.specs.Live.{IsLive}
use Rattle.plan_looks.proofs.GoesLemmas.{checks_fail, checks_on, goes_behind, same_steps, stops_at}
use Rattle.content_laws.proofs.StepLemmas.{Alike, chains_below, one_chain_more}
use Rattle.plan_content.specs.Steps.{dir_steps, read_dir_steps}

module _ (held : Held) where
  -- steps that come to the same
  ends_alike : (a b : List Step) (old new : List Look) (e : Stop) → Alike held a b → Ends held b old new e → Ends held a old new e
  ends_alike a b old new (Need w) same ends = same.wanted ∙ ends
  ends_alike a b old new (Refused s) same ends =
      record { wanted = same.wanted ∙ ends.wanted; fails = same.refusal ∙ ends.fails; looks = ends.looks ∙ ap (λ ls. old ++ ls) (sym same.looks) }
  ends_alike a b old new NoMemory same ends = tt

  pub goes_alike : {A : Type 0} (a b : List Step) (old new : List Look) (r : Result A Stop) → Alike held a b → Goes held b old new r → Goes held a old new r
  goes_alike a b old new (Ok x) same goes =
      record { wanted = same.wanted ∙ goes.wanted; passes = same.refusal ∙ goes.passes; looks = goes.looks ∙ ap (λ ls. old ++ ls) (sym same.looks) }
  goes_alike a b old new (Err e) same goes = ends_alike a b old new e same goes

  -- checks that pass or fail, and what comes behind them
  module _ (checks : List Check) (k : Result (Unit {0}) Status) (decides : k ≡ verdict (first_failure checks)) (more : List Step) where
    pub passed_then : {A : Type 0} (old new : List Look) (r : Result A Stop) (u : Unit {0}) → k ≡ Ok u → Goes held more old new r
        → Goes held (map Checks checks ++ more) old new r
    passed_then old new r u is goes =
        goes_behind held (map Checks checks) more old old new r (checks_on held checks old (passed (first_failure checks) k u decides is)) goes

    pub failed_then : {A : Type 0} (old : List Look) (s : Status) (y : Stop) (r : Result A Stop) → k ≡ Err s → r ≡ Err y → y ≡ Refused s
        → Goes held (map Checks checks ++ more) old old r
    failed_then old s y r is err same =
        stops_at held (map Checks checks) more old old (Refused s) y r err same (checks_fail held checks old s.0 (failed (first_failure checks) k s decides is))

  -- what goes no further ends so
  pub ends_at : {B : Type 0} (steps : List Step) (old new : List Look) (e y : Stop) (r : Result B Stop) → r ≡ Err y → y ≡ e → Ends held steps old new e
      → Goes held steps old new r
  ends_at {B = B} steps old new e y r is same ends = subst (λ (s : Result B Stop). Goes held steps old new s) (sym (is ∙ ap Err same)) ends

  -- a handle that names a live file, and what comes behind the look at its record
  pub live_then : {A : Type 0} (name : List ℕ) (live : LiveFile) (said : ℕ → File → List Step) (old mid new : List Look) (r : Result A Stop)
      → IsLive held name live → GoesOn held (handle_steps held name) old mid → Goes held (said live.number (bare live.facts)) mid new r
      → Goes held (handle_steps held name ++ at_handle held name [] said) old new r
  live_then name live said old mid new r is first rest =
      let same : at_handle held name [] said ≡ said live.number (bare live.facts) =
      ap (λ (p : Option File). option_map_or (said (number_in name)) p []) is.file ∙ ap (λ k. said k (bare live.facts)) (sym is.number) in
      goes_behind held (handle_steps held name) (at_handle held name [] said) old mid new r first
      (same_steps held (at_handle held name [] said) (said live.number (bare live.facts)) mid new r same rest)

  -- and where it is to name a directory
  dir_rest : List ℕ → Cred → Option File → List Step
  dir_rest name cred p =
      Checks (fails_where notdir (not (option_map_or (λ (f : File). is_directory f.content) p false)))
      ∷ option_map_or (λ (d : File). map Checks (read_dir_checks d cred) ++ list_steps held (number_in name)) p []

  dir_is : (name : List ℕ) (cred : Cred) → read_dir_steps held name cred ≡ handle_steps held name ++ dir_rest name cred (file_of held name)
  unfolding dir_rest
  dir_is name cred = refl

  dir_live : (name : List ℕ) (cred : Cred) (f : File) → dir_rest name cred (Some f) ≡ dir_steps held cred (number_in name) f
  unfolding dir_rest
  dir_live name cred f = refl

  pub dir_stops : {A : Type 0} (name : List ℕ) (cred : Cred) (old new : List Look) (e y : Stop) (r : Result A Stop) → r ≡ Err y → y ≡ e → Ends held (handle_steps held name) old new e
      → Goes held (read_dir_steps held name cred) old new r
  dir_stops name cred old new e y r is same ends =
      same_steps held (read_dir_steps held name cred) (handle_steps held name ++ dir_rest name cred (file_of held name)) old new r (dir_is name cred)
      (stops_at held (handle_steps held name) (dir_rest name cred (file_of held name)) old new e y r is same ends)

  pub dir_then : {A : Type 0} (name : List ℕ) (cred : Cred) (live : LiveFile) (old mid new : List Look) (r : Result A Stop)
      → IsLive held name live → GoesOn held (handle_steps held name) old mid → Goes held (dir_steps held cred live.number (bare live.facts)) mid new r
      → Goes held (read_dir_steps held name cred) old new r
  dir_then name cred live old mid new r is first rest =
      let same : dir_rest name cred (file_of held name) ≡ dir_steps held cred live.number (bare live.facts) =
      ap (dir_rest name cred) is.file ∙ dir_live name cred (bare live.facts) ∙ ap (λ k. dir_steps held cred k (bare live.facts)) (sym is.number) in
      same_steps held (read_dir_steps held name cred) (handle_steps held name ++ dir_rest name cred (file_of held name)) old new r (dir_is name cred)
      (goes_behind held (handle_steps held name) (dir_rest name cred (file_of held name)) old mid new r first
      (same_steps held (dir_rest name cred (file_of held name)) (dir_steps held cred live.number (bare live.facts)) mid new r same rest))

-- the size that a record tells
size_by : (a : Attrs) (x : Facts) (k : Option Kind)
    → option_map (λ kind. let y : Facts = record {
      kind = kind;
      mode = a.mode;
      links = a.links;
      uid = a.uid;
      gid = a.gid;
      size = a.size;
      generation = a.generation;
      change = a.change;
      atime = record { sec = a.atime_sec; usec = a.atime_usec };
      mtime = record { sec = a.mtime_sec; usec = a.mtime_usec };
      ctime = record { sec = a.ctime_sec; usec = a.ctime_usec };
    } in y) k ≡ Some x → x.size ≡ a.size
size_by a x None is = absurd cc
size_by a x (Some kind) is = ap (λ (p : Option Facts). size_in p) (sym is)
  where
    size_in : Option Facts → ℕ
    size_in None = a.size
    size_in (Some y) = y.size

pub size_told : (a : Attrs) (x : Facts) → facts_by a ≡ Some x → x.size ≡ a.size
size_told a x is = size_by a x (kind_by a.kind) is

-- ---- chaining blocks, one after another

module _ (held : Held) (n : ℕ) where
  abbrev one : ℕ → List Step
  one k = Looks (Chaining n k) ∷ []

  pub none_below : chains_below n 0 ≡ []
  unfolding below
  none_below = refl

  -- one more
  pub more_below : (k : ℕ) (old mid new : List Look) → GoesOn held (chains_below n k) old mid → GoesOn held (one k) mid new → GoesOn held (chains_below n (k + 1)) old new
  more_below k old mid new first next =
      let done : Result (Unit {0}) Stop = Ok tt in
      let sum : k + 1 ≡ suc k = omega arith in
      subst (λ (ss : List Step). GoesOn held ss old new) (sym (ap (chains_below n) sum ∙ one_chain_more n k))
      (goes_behind held (chains_below n k) (one k) old mid new done first next)

  -- those from one on
  abbrev from_one : ℕ → ℕ → List Step
  from_one k m = map (λ i. Looks (Chaining n (k + 1 + i))) (below m)

  split_at : (k m : ℕ) → k < m → chains_below n m ≡ (chains_below n k ++ one k) ++ from_one k (m - (k + 1))
  split_at k m below_it =
      let sum : m ≡ (k + 1) + (m - (k + 1)) = omega (arith, below_it) in
      let next : k + 1 ≡ suc k = omega arith in
      ap (chains_below n) sum ∙ made_split (λ i. Looks (Chaining n i)) (k + 1) (m - (k + 1))
      ∙ ap (λ ss. ss ++ from_one k (m - (k + 1))) (ap (chains_below n) next ∙ one_chain_more n k)

  -- where one is wanted
  pub lacks_below : {A : Type 0} (k m : ℕ) (old mid new : List Look) (e y : Stop) (r : Result A Stop) → k < m → GoesOn held (chains_below n k) old mid → r ≡ Err y → y ≡ e
      → Ends held (one k) mid new e → Goes held (chains_below n m) old new r
  lacks_below {A = A} k m old mid new e y r below_it first err same ends =
      let wrong : Result A Stop = Err e in
      let here : Goes held (chains_below n k ++ one k) old new wrong = goes_behind held (chains_below n k) (one k) old mid new wrong first ends in
      same_steps held (chains_below n m) ((chains_below n k ++ one k) ++ from_one k (m - (k + 1))) old new r (split_at k m below_it)
      (stops_at held (chains_below n k ++ one k) (from_one k (m - (k + 1))) old new e y r err same here)
