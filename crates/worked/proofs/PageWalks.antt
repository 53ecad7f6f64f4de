-- Each walk that document 02 has worked by hand comes out as it should: one computed test over the table. Assumes nothing.
use mathlib.Core.Path.{◌≡◌, refl}
use mathlib.Core.List.{map}
use Rattle.bits.specs.LittleEndian.{number_of, bytes_of}
use Rattle.vcpu_readings.specs.Readings.{paging_level, walk_width, walk_pse, walk_nxe, page_walk}
use Rattle.guest_paging.specs.Walk.{entry_size, index_of, place_of, entry_at, is_page, is_pae_top, reserved_high, reserved_low, reserved_bits, broken_right, broken_rule, passes_user, broken_at_page, page_address, at_page, entry_gives, level_gives, walk_from, top_table, cut_address, page_walk_of}
use Rattle.worked.specs.PageWalks.{Case, walks}

pub walks_as_wanted : map (λ (c : Case). c.given) walks ≡ map (λ (c : Case). c.wanted) walks
unfolding number_of bytes_of paging_level walk_width walk_pse walk_nxe page_walk entry_size index_of place_of entry_at is_page is_pae_top reserved_high reserved_low reserved_bits broken_right broken_rule passes_user broken_at_page page_address at_page entry_gives level_gives walk_from top_table cut_address page_walk_of
walks_as_wanted = refl
