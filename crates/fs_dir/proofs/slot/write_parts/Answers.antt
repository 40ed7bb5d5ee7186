use Rattle.std.proofs.Common.{◌≡◌, ◌-◌, ℕ, length, replicate, ap, sym, ◌∙◌, arith}
use Rattle.fs_dir.specs.Slots.{slot_of}
use Rattle.fs_dir.proofs.SlotLemmas.{slot_written}
use Rattle.fs_dir.proofs.slot.write_parts.Goals as goal

pub returns : goal.returns
returns c =
    let name = c.args.name.now in
    let short = c.requires.fits.short in
    let left : length c.split_at_mut-front.result.1.now ≡ 264 - length name = omega arith in
    let sized : length c.fill.new.self ≡ 264 - length name = c.fill.ensures.len ∙ left in
    let same : length c.split_at_mut-front.result.1.now ≡ length c.fill.new.self = sym c.fill.ensures.len in
    let zeros : c.fill.new.self ≡ replicate (length c.fill.new.self) 0 = c.fill.ensures.after (λ y e. e) ∙ ap (λ (n : ℕ). replicate n 0) same in
    record {
      fits = record { is = c.requires.fits; number = omega arith; name = λ i. omega (arith, c.type_inv.name i) };
      bytes_are = slot_written (slot_of c.args.number name) c.write_words.new.into c.copy_from_slice.new.self c.fill.new.self short c.write_words.ensures c.copy_from_slice.ensures.after zeros sized;
    }
