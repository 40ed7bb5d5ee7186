use Rattle.std.proofs.Common.{◌≡◌, ℕ, ◌<◌, length, take, drop, get_or, List, [], refl, sym, ◌∙◌, arith}
use Rattle.std.proofs.lemmas.Option.{slice_get_read, get_or_from_slice_get}
use Rattle.mini_tx.specs.FlatMemory.{Flat, held_by, bytes_at}
use Rattle.fs_reader.proofs.places.block_of.Goals as goal

image_bytes : (parts : Flat) (m from at n : ℕ) (image slice : List ℕ) → m < length parts → image ≡ get_or parts m image → slice ≡ image → from ≡ at → n ≡ 4096
    → take n (drop from slice) ≡ bytes_at (held_by parts m) at 4096
image_bytes parts m from at n image slice inside is same place sized =
    let held : held_by parts m ≡ image = get_or_from_slice_get parts m image [] (slice_get_read parts (length parts) m image refl inside is) in
    λ i. take (sized i) (drop (place i) ((same ∙ sym held) i))

pub returns : goal.returns
returns c =
    image_bytes c.args.parts.now c.args.at.memory c.block_at-from.result _ _ c.index-parts-at.result c.as_slice.result.now (omega (arith, c.requires.sized.memories, c.requires.inside.memory))
    c.index-parts-at.is c.as_slice.ensures.value c.block_at-from.ensures.exact (omega arith)
