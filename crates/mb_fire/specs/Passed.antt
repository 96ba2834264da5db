-- Headers and quadlets that stand whole in the input (IEC 61883-1, "CIP header"; IEC 61883-6, "AM824 data") and carry
-- nothing on a port: they are passed over in one go.
--
--   is_passed port c label        a quadlet begins here, and with this label carries nothing on the port
--   behind_whole_header p h       behind a length and a header
--   behind_whole_quadlet p c l    behind a quadlet; behind_whole_rest, behind_whole_label behind a part of one
--   IsQuiet port c label next     a quadlet that is passed over, behind which blocks go on
--   PassedOver port was now ..    bytes were passed over that aren't the port's
use Rattle.std.specs.Prelude.{◌≡◌, ℕ, ◌+◌, ◌-◌, ◌*◌, ◌%◌, Bool, true, false, not, ◌&&◌, ◌==◌, nat_lt, nat_le, List, []}
use Rattle.std.specs.Prelude.{◌∷◌, ◌++◌}
use Rattle.mb_fire.specs.declared.due.Due.TheVariants.{Nothing}
use Rattle.mb_fire.specs.declared.place.BegunHeader.{BegunHeader}
use Rattle.mb_fire.specs.declared.place.BlockPlace.{BlockPlace}
use Rattle.mb_fire.specs.declared.place.Place.TheVariants.{Within}
use Rattle.mb_fire.specs.declared.under.Packets.{Packets}
use Rattle.mb_fire.specs.State.{is_of_port}
use Rattle.mb_fire.specs.Under.{behind_header, expected_behind, notes_at_header, label_after, behind_quadlet}
use Rattle.mb_fire.specs.Under.{notes_behind, due_by, packet_after, packet_behind}

abbrev pub carries : (port : ℕ) → BlockPlace → (label : ℕ) → Bool
carries port c label = nat_le 0x81 label && nat_le label 0x83 && nat_lt c.midi 8 && (8 * c.midi + c.count % 8 == port)

abbrev pub is_passed : (port : ℕ) → BlockPlace → (label : ℕ) → Bool
is_passed port c label = (c.left == 0) && (c.skip == 0) && not (carries port c label)

-- the header lacks its last byte
abbrev pub behind_whole_header : Packets → BegunHeader → Packets
behind_whole_header p h = record {
  offset = p.offset + 10;
  under = record { place = behind_header h; expected = expected_behind p.under.expected h };
  due = due_by (notes_at_header p.under.expected h (p.offset + 9));
}

abbrev pub behind_whole_quadlet : Packets → BlockPlace → (label : ℕ) → Packets
behind_whole_quadlet p c label = record {
  offset = p.offset + 4;
  under = record { place = behind_quadlet (label_after c label); expected = p.under.expected };
  due = due_by (notes_behind (label_after c label) (p.offset + 3));
}

abbrev pub behind_whole_rest : Packets → BlockPlace → Packets
behind_whole_rest p c = record {
  offset = p.offset + c.skip;
  under = record { place = behind_quadlet c; expected = p.under.expected };
  due = due_by (notes_behind c (p.offset + c.skip - 1));
}

abbrev pub behind_whole_label : Packets → BlockPlace → (label : ℕ) → Packets
behind_whole_label p c label = record {
  offset = p.offset + 1;
  under = record { place = Within (label_after c label); expected = p.under.expected };
  due = Nothing;
}

-- blocks go on behind the quadlet, and nothing is remarked of it
pub record IsQuiet (port : ℕ) (c : BlockPlace) (label : ℕ) (next : BlockPlace) : Type 0 where
  pub passed : is_passed port c label ≡ true
  pub none : ((label_after c label).quadlets == 0 && ((label_after c label).midi == 0)) ≡ false
  pub goes_on : behind_quadlet (label_after c label) ≡ Within next

-- one after the other: none is the port's, and nothing is remarked before the last
abbrev pub ArePassed : (port : ℕ) → Packets → List ℕ → Type 0
ArePassed port p [] = Unit {0}
ArePassed port p (b ∷ bs) =
    (p.due ≡ Nothing) × (is_of_port port p.under ≡ false) × ArePassed port (packet_after p b) bs

pub record PassedOver (port : ℕ) (was now : Packets) (input left : List ℕ) : Type 0 where
  pub taken : List ℕ
  pub front : input ≡ taken ++ left
  pub passed : ArePassed port was taken
  pub behind : now ≡ packet_behind was taken
