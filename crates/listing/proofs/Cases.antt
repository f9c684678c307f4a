-- Worked cases, computed from the definitions.
use mathlib.Core.Path.{refl}
use Rattle.listing.specs.Claim.{Worked}
use Rattle.listing.specs.Layout.{entry_bytes, front_bytes, head_bytes, region_bytes, slot_bytes, tables_bytes, thread_bytes}
use Rattle.rules.specs.Bytes.{bytes_of}
use Rattle.rules.specs.Lists.{flat}

pub worked : Worked
unfolding entry_bytes front_bytes head_bytes region_bytes slot_bytes tables_bytes thread_bytes bytes_of flat
worked = record { of_region = refl; of_entry = refl; of_flight = refl; of_thread = refl; of_tables = refl }
