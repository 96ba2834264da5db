-- What may be missing, and what may not.
use Rattle.std.proofs.Common.{◌≡◌, ℕ, List, [], ◌∷◌, ◌++◌, map, refl, lit≤}
use Rattle.mb_message.specs.Signs.{ShortSign, RtSign, OpenSign, ByteSign, EndSign, AbortSign}
use Rattle.mb_stream.specs.Denotation.{Meant, Message, Syx, Broken, denotation}
use Rattle.mb_stream.specs.Lacking.{Lacks}
use Rattle.mb_stream.specs.MeaningFront.{IsMeaningFront}

-- the last byte of a broken SysEx, and the start of the next
example-two_bytes : Lacks 2 (denotation (OpenSign ∷ ByteSign 1 ∷ []))
    (denotation (OpenSign ∷ ByteSign 1 ∷ ByteSign 2 ∷ AbortSign ∷ OpenSign ∷ []))
example-two_bytes = record {
  realtimes = refl;
  items = [];
  broken_less = (1 ∷ []) ∷ [];
  broken_full = (1 ∷ 2 ∷ []) ∷ [] ∷ [];
  less_is = refl;
  full_is = refl;
  missing = 2 ∷ 0xf0 ∷ [];
  row_is = refl;
  few = lit≤ tt;
}

-- a message is never missing
example-message : (n : ℕ) → Lacks n (denotation []) (denotation (ShortSign 0x90 0x3c 0x64 ∷ [])) → ⊥
example-message n l = by l.items l.broken_less l.broken_full l.less_is l.full_is
  where
    by : (items : List Meant) (less full : List (List ℕ)) → [] ≡ items ++ map Broken less →
        Message 0x90 0x3c 0x64 ∷ [] ≡ items ++ map Broken full → ⊥
    by [] less [] e f = cc
    by [] less (data_bytes ∷ full) e f = cc
    by (x ∷ items) less full e f = cc

-- nor is a real-time message
example-realtime : (n : ℕ) → Lacks n (denotation []) (denotation (RtSign 0xf8 ∷ [])) → ⊥
example-realtime n l = by l.realtimes
  where
    by : (denotation []).realtimes ≡ (denotation (RtSign 0xf8 ∷ [])).realtimes → ⊥
    by e = cc

-- nor a byte of a SysEx that has ended
example-whole_sysex : (n : ℕ) → Lacks n (denotation (OpenSign ∷ []))
    (denotation (OpenSign ∷ ByteSign 1 ∷ EndSign ∷ [])) → ⊥
example-whole_sysex n l = by l.items l.broken_less l.broken_full l.less_is l.full_is
  where
    by : (items : List Meant) (less full : List (List ℕ)) → Broken [] ∷ [] ≡ items ++ map Broken less →
        Syx (1 ∷ []) ∷ [] ≡ items ++ map Broken full → ⊥
    by [] less [] e f = cc
    by [] less (data_bytes ∷ full) e f = cc
    by (x ∷ items) less full e f = other x (heads x items less e) (tops x items full f)
      where
        heads : (x : Meant) (items : List Meant) (less : List (List ℕ)) →
            Broken [] ∷ [] ≡ x ∷ (items ++ map Broken less) → Broken [] ≡ x
        heads x items less e = cc

        tops : (x : Meant) (items : List Meant) (full : List (List ℕ)) →
            Syx (1 ∷ []) ∷ [] ≡ x ∷ (items ++ map Broken full) → Syx (1 ∷ []) ≡ x
        tops x items full e = cc

        other : (x : Meant) → Broken [] ≡ x → Syx (1 ∷ []) ≡ x → ⊥
        other x e f = cc

-- the SysEx that is open yet may end
example-open_yet : IsMeaningFront (denotation (OpenSign ∷ ByteSign 1 ∷ []))
    (denotation (OpenSign ∷ ByteSign 1 ∷ ByteSign 2 ∷ EndSign ∷ RtSign 0xf8 ∷ []))
example-open_yet = record {
  both = [];
  open_yet = Broken (1 ∷ []) ∷ [];
  rest = Syx (1 ∷ 2 ∷ []) ∷ [];
  front_is = refl;
  whole_is = refl;
  begins = (2 ∷ [], refl);
  realtimes = (record { byte = 0xf8; after = 1 } ∷ [], refl);
}
