-- As many were read as the items of a fetch read.
use Rattle.std.proofs.Common.{◌≡◌, ℕ, ◌+◌, ◌*◌, List, [], ◌∷◌, refl, sym, ap, ◌∙◌}
use Rattle.std.specs.Prelude.{length, filter, flat_map}
use Rattle.std.specs.Option.{option_map_or}
use Rattle.std.proofs.lemmas.List.{length-map}
use Rattle.fs_rules.specs.Lists.{below}
use Rattle.fs_laws.proofs.ToldLemmas.{length_below}
use Rattle.fs_image.specs.Owners.{Chain, Block}
use Rattle.mini_tx.specs.declared.item.Item.{Item}
use Rattle.mini_tx.specs.Minitransactions.{bytes_of}
use Rattle.node_cache.specs.declared.held.Held.{Held}
use Rattle.node_cache.specs.declared.want.Want.TheVariants as want
use Rattle.node_cache.specs.Cached.{held_of}
use Rattle.plan_rules.specs.Fetched.{is_read, read_items, block_read, part_read, blocks_in, fetched, AreReads}
use Rattle.plan_rules.specs.Works.{IsWorkSet, IsTold}
use Rattle.plan_keep.proofs.ToldLemmas.{chain_lies}
use Rattle.plan_keep.proofs.UnfitLemmas.{no_stamp}
use Rattle.plan_keep.proofs.GroupLemmas.{all_items, nth_there, item_at}

same_length : (items : List Item) (reads : List (List ℕ)) → AreReads items reads → length reads ≡ length (read_items items)
same_length items reads is = sym (length-map reads (λ b. length b)) ∙ ap length is ∙ length-map (read_items items) bytes_of

pub one_record : (held : Held) (n : ℕ) (reads : List (List ℕ)) → AreReads (fetched held (want.Inode n)) reads → length reads ≡ 1
unfolding fetched
one_record held n reads is = same_length (fetched held (want.Inode n)) reads is

pub one_page : (held : Held) (m : ℕ) (reads : List (List ℕ)) → AreReads (fetched held (want.Map m)) reads → length reads ≡ 1
unfolding fetched
one_page held m reads is = same_length (fetched held (want.Map m)) reads is

pub one_chain : (held : Held) → IsWorkSet held → (n k : ℕ) (reads : List (List ℕ)) → IsTold held (want.Chain n k) → AreReads (fetched held (want.Chain n k)) reads
    → length reads ≡ 1
unfolding fetched
one_chain held work n k reads told is =
    same_length (fetched held (want.Chain n k)) reads is
    ∙ ap length (no_stamp held n (part_read held n (Chain k)) (held_of n held.entries) refl
    ∙ ap (λ o. filter is_read (option_map_or (λ p. block_read held.geometry p ∷ []) o [])) (chain_lies held work n k told).1)

pub all_of_group : (held : Held) → IsWorkSet held → (n g : ℕ) (reads : List (List ℕ)) → IsTold held (want.Slots n g) → AreReads (fetched held (want.Slots n g)) reads
    → length reads ≡ blocks_in held n g
unfolding fetched
all_of_group held work n g reads told is =
    same_length (fetched held (want.Slots n g)) reads is
    ∙ ap length (no_stamp held n (flat_map (λ k. part_read held n (Block (64 * g + k))) (below (blocks_in held n g))) (held_of n held.entries) refl
    ∙ all_items held n (64 * g) (blocks_in held n g) (nth_there held work n g told))
    ∙ length-map (below (blocks_in held n g)) (λ j. item_at held n (64 * g + j)) ∙ length_below (blocks_in held n g)
