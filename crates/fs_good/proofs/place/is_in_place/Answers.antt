use Rattle.fs_good.proofs.place.is_in_place.Goals as goal

pub returns-then-is_number : goal.returns-then-is_number
returns-then-is_number c = (
  λ is. record {
    number = c.is_number.ensures.0 c.if-is_number.true;
    own = (c.is_in_order.ensures.0 is).1;
    links = (c.is_in_order.ensures.0 is).0.0;
    under = (c.is_in_order.ensures.0 is).0.1;
  },
  λ placed. c.is_in_order.ensures.1 ((placed.links, placed.under), placed.own),
)
