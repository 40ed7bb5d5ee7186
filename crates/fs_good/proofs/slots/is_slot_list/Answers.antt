use Rattle.fs_good.proofs.slots.is_slot_list.Goals as goal

pub returns-then-are_named : goal.returns-then-are_named
returns-then-are_named c = (
  λ is. record {
    whole = (c.are_named.ensures.0 c.if-are_named.true).0.0;
    few = (c.are_named.ensures.0 c.if-are_named.true).0.1;
    names = (c.are_named.ensures.0 c.if-are_named.true).1;
    distinct = c.are_distinct.ensures.0 is;
  },
  λ list. c.are_distinct.ensures.1 list.distinct,
)
