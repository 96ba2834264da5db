-- What marks mean. Each holds by computing both sides.
use Rattle.std.specs.Prelude.{◌≡◌, [], ◌∷◌, refl}
use Rattle.mb_message.specs.Signs.{ShortSign, RtSign, OpenSign, ByteSign, EndSign, AbortSign}
use Rattle.mb_stream.specs.Denotation.{Message, Syx, Broken, denotation}

clock_inside_a_sysex_stands_before_its_end :
    denotation (OpenSign ∷ ByteSign 1 ∷ RtSign 0xf8 ∷ ByteSign 2 ∷ EndSign ∷ RtSign 0xfa ∷ []) ≡
    record {
      items = Syx (1 ∷ 2 ∷ []) ∷ [];
      realtimes = record { byte = 0xf8; after = 0 } ∷ record {
        byte = 0xfa;
        after = 1;
      } ∷ [];
    }
clock_inside_a_sysex_stands_before_its_end = refl

broken_sysex_counts_for_nothing :
    denotation (OpenSign ∷ ByteSign 1 ∷ AbortSign ∷ RtSign 0xf8 ∷ ShortSign 0x90 0x3c 0x64 ∷ RtSign 0xf8 ∷ []) ≡
    record {
      items = Broken (1 ∷ []) ∷ Message 0x90 0x3c 0x64 ∷ [];
      realtimes = record { byte = 0xf8; after = 0 } ∷ record { byte = 0xf8; after = 1 } ∷ [];
    }
broken_sysex_counts_for_nothing = refl

sysex_that_stays_open_is_broken : denotation (OpenSign ∷ EndSign ∷ OpenSign ∷ ByteSign 1 ∷ []) ≡ record {
  items =
      Syx [] ∷ Broken (1 ∷ []) ∷ [];
  realtimes = [];
}
sysex_that_stays_open_is_broken = refl
