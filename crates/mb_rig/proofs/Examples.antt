-- The definitions compute.
use Rattle.std.proofs.Common.{◌≡◌, [], ◌∷◌, ◌++◌, refl, codes, List, true, false, Some, None}
use Rattle.std.specs.Fmt.{digits}
use Rattle.mb_carrier.specs.declared.spec.Spec.TheVariants as spec
use Rattle.mb_rig.specs.declared.fault.Why.TheVariants as why
use Rattle.mb_rig.specs.RigText.{rig_of, Right, Faulty, RigPort, wants_memory, spec_of, track_of}

abbrev one_out : List RigPort
one_out = record { name = codes "o"; spec = spec.Din; file = codes "o.bin"; track = 0 } ∷ []

two_tapes_into_one_out : rig_of (codes "in keys din keys.mbt\nin pad din pad.mbt\n" ++
    codes "out synth din synth.bin\nroute keys synth\nroute pad synth\n") ≡ Right (record {
      ins = record { name = codes "keys"; spec = spec.Din; file = codes "keys.mbt"; track = 0 } ∷
          record { name = codes "pad"; spec = spec.Din; file = codes "pad.mbt"; track = 0 } ∷ [];
      outs = record { name = codes "synth"; spec = spec.Din; file = codes "synth.bin"; track = 0 } ∷ [];
      routes = (0, 0) ∷ (1, 0) ∷ [];
    })
unfolding spec_of
two_tapes_into_one_out = refl

-- a remark, a blank line and a return before a line feed; a link without a route
link_without_a_route : rig_of (codes "# a rig\r\n \nin a din a.mbt\r\nout o din o.bin") ≡ Right (record {
  ins = record { name = codes "a"; spec = spec.Din; file = codes "a.mbt"; track = 0 } ∷ [];
  outs = one_out;
  routes = [];
})
unfolding spec_of
link_without_a_route = refl

two_tracks_of_one_tape : rig_of (codes "in a din t.mbt\nin b din t.mbt 1\nout o din o.bin\n") ≡ Right (record {
  ins = record { name = codes "a"; spec = spec.Din; file = codes "t.mbt"; track = 0 } ∷
      record { name = codes "b"; spec = spec.Din; file = codes "t.mbt"; track = 1 } ∷ [];
  outs = one_out;
  routes = [];
})
unfolding spec_of track_of digits
two_tracks_of_one_tape = refl

nothing : rig_of [] ≡ Faulty 1 why.Count
nothing = refl

no_memory_for_nothing : wants_memory [] ≡ false
no_memory_for_nothing = refl

remark_alone : rig_of (codes "# a\n") ≡ Faulty 2 why.Count
remark_alone = refl

memory_for_a_link : wants_memory (codes "\nin a din a.mbt\nout") ≡ true
unfolding spec_of
memory_for_a_link = refl

no_memory_for_a_faulty_line : wants_memory (codes "route a o\nin a din a.mbt\n") ≡ false
no_memory_for_a_faulty_line = refl

tabs_alone_part_words : rig_of (codes "in\ta din a.mbt\nin b\u{7f} din b.mbt\n") ≡ Faulty 2 why.Words
unfolding spec_of
tabs_alone_part_words = refl

no_such_carrier : rig_of (codes "in a dni a.mbt") ≡ Faulty 1 why.Carrier
unfolding spec_of digits
no_such_carrier = refl

name_in_capitals : rig_of (codes "in A din a.mbt") ≡ Faulty 1 why.Name
unfolding spec_of
name_in_capitals = refl

carrier_before_name : rig_of (codes "in A dni a.mbt") ≡ Faulty 1 why.Carrier
unfolding spec_of digits
carrier_before_name = refl

name_twice : rig_of (codes "in a din a.mbt\nout a din o.bin\n") ≡ Faulty 2 why.NameTwice
unfolding spec_of
name_twice = refl

track_twice : rig_of (codes "in a din t.mbt\nin b din t.mbt 0\n") ≡ Faulty 2 why.NameTwice
unfolding spec_of track_of digits
track_twice = refl

file_of_a_link_and_an_out : rig_of (codes "in a din t.mbt 1\nout o din t.mbt\n") ≡ Faulty 2 why.NameTwice
unfolding spec_of track_of digits
file_of_a_link_and_an_out = refl

track_256 : rig_of (codes "in a din t.mbt 256") ≡ Faulty 1 why.Words
unfolding track_of digits
track_256 = refl

track_with_a_leading_zero : rig_of (codes "in a din t.mbt 01") ≡ Faulty 1 why.Words
unfolding track_of digits
track_with_a_leading_zero = refl

route_to_a_later_out : rig_of (codes "in a din a.mbt\nroute a o\nout o din o.bin\n") ≡ Faulty 2 why.Port
unfolding spec_of
route_to_a_later_out = refl

route_backwards : rig_of (codes "in a din a.mbt\nout o din o.bin\nroute o a\n") ≡ Faulty 3 why.Port
unfolding spec_of
route_backwards = refl

route_twice : rig_of (codes "in a din a.mbt\nout o din o.bin\nroute a o\nroute a o\n") ≡ Faulty 4 why.RouteTwice
unfolding spec_of
route_twice = refl

size_not_named : spec_of (codes "ble") ≡ Some (spec.Ble 20)
unfolding spec_of digits
size_not_named = refl

cable_16 : spec_of (codes "usb:16") ≡ None
unfolding spec_of digits
cable_16 = refl
