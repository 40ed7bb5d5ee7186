-- The examples compute.
use Rattle.std.proofs.Common.{refl}
use Rattle.fs_layout.specs.Words.{spelled}
use Rattle.fs_layout.specs.Handles.{handle_words}
use Rattle.fs_rules.specs.Access.{is_allowed}
use Rattle.fs_rules.specs.Attributes.{set_attr_checks}
use Rattle.fs_rules.specs.Contents.{touched}
use Rattle.fs_rules.specs.Lists.{below}
use Rattle.fs_bitmap.specs.Bits.{has_bit, free_below, free_in_byte}
use Rattle.plan_rules.specs.Steps.{wanted_in, looks_in}
use Rattle.plan_rules.specs.Names.{group_steps, parent_steps, leads_up, is_on_way}
use Rattle.plan_rules.specs.Blocks.{last_below}
use Rattle.plan_rules.specs.Room.{number_maps, number_from, room_maps, taken_on, needs_maps}
use Rattle.plan_rules.specs.Orders.{order}
use Rattle.plan_rules.specs.Compared.{firsts, compares}
use Rattle.plan_rules.specs.Examples.{ExamplesHold}

pub examples_hold : ExamplesHold
unfolding spelled handle_words is_allowed set_attr_checks touched below has_bit free_below free_in_byte wanted_in looks_in group_steps parent_steps leads_up is_on_way last_below number_maps number_from room_maps taken_on needs_maps order firsts compares
examples_hold =
    record {
      get_attr = refl;
      get_attr_held = refl;
      stale = refl;
      set_attr = refl;
      set_attr_more = refl;
      lookup = refl;
      lookup_slots = refl;
      lookup_file = refl;
      lookup_absent = refl;
      lookup_parent = refl;
      read_link = refl;
      read = refl;
      read_past = refl;
      write = refl;
      write_stored = refl;
      write_nothing = refl;
      create = refl;
      create_there = refl;
      remove = refl;
      rename = refl;
      link = refl;
      sym_links = refl;
      make_dir = refl;
      remove_dir = refl;
      remove_dir_in_use = refl;
      read_dir = refl;
      stat_fs = refl;
      looks_of_sym_link = refl;
      looks_of_remove = refl;
      looks_of_make_dir = refl;
      stamps = refl;
      maps = refl;
    }
