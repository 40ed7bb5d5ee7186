-- What memory nodes and the manager do about cuts beside the safe rules, by computing.
use Rattle.std.specs.Prelude.{◌≡◌, ◌*◌, true, false, List, [], ◌∷◌, length, Some, None}
use Rattle.tx_actors.specs.Machine.{Begin, ToNode, ToStoppingNode, BootNode}
use Rattle.tx_actors.specs.Sample.{sample_setting}
use Rattle.tx_cuts.specs.Cut.{Hold, HeldOk, HeldLocked, HeldPast, Drop, Read, Piece, PieceNone, StillHeld, Copy, Releases, Loses, Sends}
use Rattle.tx_cuts.specs.Holds.{is_of, held_cut, on_release, on_drop, piece_bytes, on_list}
use Rattle.tx_cuts.specs.Backup.{Holding, Reading, Backup, Ended, CutAct, running_hears, idle_hears, gives_up, resends}
use Rattle.tx_cuts.specs.Whole.{Whole, WholeInput, Acts, CutToNode, CutToStoppingNode, Lists, CutToManager, BeginBackup, ResendBackup, BootBackup, numbered_cut, whole_steps, opened_whole}

-- from a formatted cluster of two memory nodes with images of eight bytes
abbrev pub cuts_from_fresh : List WholeInput → Whole
cuts_from_fresh inputs = whole_steps sample_setting 8 (0 ∷ 1 ∷ []) (opened_whole sample_setting [] (λ m a. 0) [] (λ c. 100 * c) 1) inputs

abbrev pub more_cuts : Whole → List WholeInput → Whole
more_cuts x inputs = whole_steps sample_setting 8 (0 ∷ 1 ∷ []) x inputs

-- both memory nodes hold cut 1, and the manager hears one of them twice, and posts again
abbrev pub held_whole : Whole
held_whole = cuts_from_fresh (BeginBackup 1 ∷ CutToNode 0 0 ∷ CutToNode 0 1 ∷ CutToManager 1 ∷ CutToManager 1 ∷ ResendBackup ∷ [])

-- `hold` comes once more; memory node 0 lists; the manager crashes and hears of the cut that is still held
abbrev pub orphan_cut : Whole
orphan_cut = more_cuts held_whole (CutToNode 0 0 ∷ Lists 0 ∷ CutToManager 5 ∷ BootBackup ∷ CutToManager 5 ∷ CutToNode 6 0 ∷ [])

-- identifier 1 is granted at memory node 0 while it holds nothing, and cut 2 finds its lock; before that it held cut 1
abbrev pub locked_cut : Whole
locked_cut =
    more_cuts held_whole (CutToManager 2 ∷ CutToNode 4 0 ∷ Acts (Begin 1) ∷ Acts (ToNode 0 0 None) ∷ BootBackup ∷ BeginBackup 2 ∷ CutToNode 6 0 ∷ [])

-- a hold is repeated, and makes no cut with one `held ok` heard twice; a cut that is still held is dropped where it is
-- not the running one, and else not; a locked `hold` drops the older copy; and a crash loses the copy
pub record CutsGoOn : Type 0 where
  pub unmade : held_whole.cuts.made ≡ []
  pub again : numbered_cut held_whole.cuts.sent 3 ≡ Some (Hold 1)
  pub held_again : numbered_cut orphan_cut.cuts.sent 4 ≡ Some (HeldOk 0 1)
  pub still : numbered_cut orphan_cut.cuts.sent 5 ≡ Some (StillHeld 0 1)
  pub dropped : numbered_cut orphan_cut.cuts.sent 6 ≡ Some (Drop 1)
  pub sent : length orphan_cut.cuts.sent ≡ 7
  pub idle : orphan_cut.backup ≡ None
  pub gone : held_cut (orphan_cut.cuts.copies 0) ≡ None
  pub locked : numbered_cut locked_cut.cuts.sent 7 ≡ Some (HeldLocked 0 2)
  pub older : is_of 1 (locked_cut.cuts.copies 0) ≡ false
  pub other : held_cut (held_whole.cuts.copies 1) ≡ Some 1
  pub lost : held_cut ((more_cuts held_whole (CutToStoppingNode 0 1 ∷ [])).cuts.copies 1) ≡ None
  pub booted : held_cut ((more_cuts held_whole (Acts (BootNode 1) ∷ [])).cuts.copies 1) ≡ None
  pub stopped : held_cut ((more_cuts held_whole (Acts (ToStoppingNode 0 1 None) ∷ [])).cuts.copies 1) ≡ None

-- a backup that holds, and one that reads its second piece of memory node 0
abbrev pub holds_two : Backup
holds_two = record { cut = 2; phase = Holding [] }

abbrev pub reads_two : Backup
reads_two = record { cut = 2; phase = Reading (0 ∷ 1 ∷ []) (1 ∷ 2 ∷ []) [] }

-- it ends without images, and all memory nodes are to drop the cut
abbrev pub ended_two : CutAct
ended_two = record { backup = None; events = Sends (Drop 2) ∷ []; ends = Ended 2 ∷ [] }

abbrev pub goes_on : Backup → CutAct
goes_on b = record { backup = Some b; events = []; ends = [] }

-- a copy of cut 2, held and released
abbrev pub copy_two : Copy
copy_two = record { cut = 2; held = true; image = λ a. a }

-- `held locked`, `held past` and `piece none` of the running cut end it, and those of others do not; a piece of another
-- memory node or place, or of another length, is ignored; `release` keeps the copy, which is named no more; and a piece
-- has 65,536 bytes at most
pub record BackupsEnd : Type 0 where
  pub locked : running_hears 8 (0 ∷ 1 ∷ []) holds_two (HeldLocked 0 2) ≡ ended_two
  pub past : running_hears 8 (0 ∷ 1 ∷ []) holds_two (HeldPast 0 2) ≡ ended_two
  pub none : running_hears 8 (0 ∷ 1 ∷ []) reads_two (PieceNone 0 2 2) ≡ ended_two
  pub given_up : gives_up (Some holds_two) ≡ ended_two
  pub older_locked : running_hears 8 (0 ∷ 1 ∷ []) holds_two (HeldLocked 0 1) ≡ goes_on holds_two
  pub older_none : running_hears 8 (0 ∷ 1 ∷ []) reads_two (PieceNone 0 1 2) ≡ goes_on reads_two
  pub other_node : running_hears 8 (0 ∷ 1 ∷ []) reads_two (Piece 1 2 2 (0 ∷ 0 ∷ 0 ∷ 0 ∷ 0 ∷ 0 ∷ [])) ≡ goes_on reads_two
  pub other_place : running_hears 8 (0 ∷ 1 ∷ []) reads_two (Piece 0 2 0 (0 ∷ 0 ∷ 0 ∷ 0 ∷ 0 ∷ 0 ∷ 0 ∷ 0 ∷ [])) ≡ goes_on reads_two
  pub short : running_hears 8 (0 ∷ 1 ∷ []) reads_two (Piece 0 2 2 (0 ∷ [])) ≡ goes_on reads_two
  pub next : (running_hears 8 (0 ∷ 1 ∷ []) reads_two (Piece 0 2 2 (0 ∷ 0 ∷ 0 ∷ 0 ∷ 0 ∷ 0 ∷ []))).events ≡ Sends (Read 1 2 0) ∷ []
  pub still : (running_hears 8 (0 ∷ 1 ∷ []) holds_two (StillHeld 1 2)).events ≡ []
  pub orphan : (running_hears 8 (0 ∷ 1 ∷ []) holds_two (StillHeld 1 1)).events ≡ Sends (Drop 1) ∷ []
  pub idle : (idle_hears (StillHeld 1 1)).events ≡ Sends (Drop 1) ∷ []
  pub again : (resends (Some holds_two)).events ≡ Sends (Hold 2) ∷ []
  pub released : on_release 0 2 (Some copy_two) ≡ Releases 0 copy_two ∷ []
  pub kept : on_release 0 1 (Some copy_two) ≡ []
  pub drops : on_drop 0 2 (Some copy_two) ≡ Loses 0 ∷ []
  pub listed : on_list 0 (Some copy_two) ≡ Sends (StillHeld 0 2) ∷ []
  pub unlisted : on_list 0 (Some (record copy_two { held = false })) ≡ []
  pub piece : piece_bytes 100000 0 ≡ 65536
  pub last_piece : piece_bytes 100000 65536 ≡ 34464
