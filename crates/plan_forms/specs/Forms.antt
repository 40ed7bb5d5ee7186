-- How an answer is made of what was read.
use Rattle.std.specs.Prelude.{◌≡◌, ℕ, ◌+◌, ◌*◌, ◌≤◌, List, [], ◌∷◌, ◌++◌, length, replicate, slice_get, unwrap_or, sum_by, All}
use Rattle.nfs_proto.specs.declared.answer.Answer.{Answer}
use Rattle.nfs_proto.specs.declared.answer.Answer.TheVariants as answer
use Rattle.fs_bitmap.specs.Bits.{free_below}
use Rattle.fs_rules.specs.declared.geometry.Geometry.{Geometry}
use Rattle.fs_rules.specs.Geometry.{IsWithinLimits}
use Rattle.plan_forms.specs.declared.form.AnswerForm.{AnswerForm}
use Rattle.plan_forms.specs.declared.form.AnswerForm.TheVariants.{Ready, Path, Part, Space}
use Rattle.plan_forms.specs.declared.form.Piece.{Piece}
use Rattle.plan_forms.specs.declared.form.Piece.TheVariants.{Zeros, Read}

-- what was read at a place: nothing behind the last one
abbrev pub read_at : List (List ℕ) → ℕ → List ℕ
read_at reads at = unwrap_or (slice_get reads at) []

-- the bytes of a piece, and how many reads it takes; so many were taken before
abbrev pub piece_bytes : List (List ℕ) → ℕ → Piece → List ℕ
piece_bytes reads at (Zeros count) = replicate count 0
piece_bytes reads at Read = read_at reads at

abbrev pub reads_of : Piece → ℕ
reads_of (Zeros count) = 0
reads_of Read = 1

-- the bytes of all pieces, in order
unfoldable pub joined_from : List (List ℕ) → ℕ → List Piece → List ℕ
joined_from reads at [] = []
joined_from reads at (p ∷ pieces) = piece_bytes reads at p ++ joined_from reads (at + reads_of p) pieces

abbrev pub joined : List Piece → List (List ℕ) → List ℕ
joined pieces reads = joined_from reads 0 pieces

-- how many blocks are free by the maps of all memory nodes
abbrev pub free_in : ℕ → List (List ℕ) → ℕ
free_in blocks maps = sum_by (λ map. free_below map blocks) maps

abbrev pub space_of : Geometry → List (List ℕ) → Answer
space_of g maps = answer.Space 8192 4096 (g.memories * g.blocks) (free_in g.blocks maps) (free_in g.blocks maps)

-- the answer that a form makes
abbrev pub said : AnswerForm → List (List ℕ) → Answer
said (Ready a) reads = a
said (Path pieces) reads = answer.Path (joined pieces reads)
said (Part attr pieces) reads = answer.Part attr (joined pieces reads)
said (Space g) reads = space_of g reads

-- what was read for a form: of the space of a cluster, the map of the blocks of each memory node
pub record AreMapsFor (g : Geometry) (maps : List (List ℕ)) : Type 0 where
  pub limits : IsWithinLimits g
  pub each : length maps ≡ g.memories
  pub whole : All (λ map. g.blocks ≤ 8 * length map) maps

abbrev pub AreReadsFor : AnswerForm → List (List ℕ) → Type 0
AreReadsFor (Ready a) reads = Unit {0}
AreReadsFor (Path pieces) reads = Unit {0}
AreReadsFor (Part attr pieces) reads = Unit {0}
AreReadsFor (Space g) reads = AreMapsFor g reads
