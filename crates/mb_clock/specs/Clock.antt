-- What is kept of the stamps so far.
--
--   Clock                 the upper six bits in the packet under way, the lower seven of its last stamp (0 before any),
--                         and the last moment
--   clock_of ps           what is to be kept of these packets, the last of which is under way
--   begun c high          a packet begins
--   stamped c low         a stamp follows
use Rattle.std.specs.Prelude.{ℕ, ◌+◌, ◌*◌, ◌%◌, nat_lt, if◌then◌else◌, List, []}
use Rattle.mb_clock.specs.Stamps.{StampedPacket, last_or, last_upper}
use Rattle.mb_clock.specs.Moments.{next_moment, moments}

pub record Clock : Type 0 where
  pub upper : ℕ
  pub lower : ℕ
  pub moment : ℕ

abbrev pub last_packet : List StampedPacket → StampedPacket
last_packet ps = last_or (record { high = 0; lows = [] }) ps

abbrev pub last_moment : List StampedPacket → ℕ
last_moment ps = last_or 0 (moments ps)

abbrev pub clock_of : List StampedPacket → Clock
clock_of ps = record {
  upper = last_upper (last_packet ps);
  lower = last_or 0 (last_packet ps).lows;
  moment = last_moment ps;
}

abbrev pub begun : Clock → ℕ → Clock
begun c high = record { upper = high; lower = 0; moment = c.moment }

abbrev pub upper_at : Clock → ℕ → ℕ
upper_at c low = if nat_lt low c.lower then (c.upper + 1) % 64 else c.upper

abbrev pub stamped : Clock → ℕ → Clock
stamped c low = record {
  upper = upper_at c low;
  lower = low;
  moment = next_moment c.moment (128 * upper_at c low + low);
}
