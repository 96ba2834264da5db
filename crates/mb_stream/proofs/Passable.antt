-- The start and the data of SysEx, and the break of one: marks that count in no real-time message's place.
use Rattle.std.proofs.Common.{List, [], ◌∷◌, ◌++◌}
use Rattle.mb_message.specs.Signs.{Sign, ShortSign, RtSign, OpenSign, ByteSign, EndSign, AbortSign}

-- marks that a real-time mark may pass: none of them counts in its place
abbrev pub Passable : List Sign → Type 0
Passable [] = Unit {0}
Passable (OpenSign ∷ ms) = Passable ms
Passable (ByteSign b ∷ ms) = Passable ms
Passable (AbortSign ∷ ms) = Passable ms
Passable (ShortSign s a b ∷ ms) = ⊥
Passable (RtSign b ∷ ms) = ⊥
Passable (EndSign ∷ ms) = ⊥

pub Passable-append : (xs ys : List Sign) → Passable xs → Passable ys → Passable (xs ++ ys)
Passable-append [] ys h k = k
Passable-append (OpenSign ∷ xs) ys h k = Passable-append xs ys h k
Passable-append (ByteSign b ∷ xs) ys h k = Passable-append xs ys h k
Passable-append (AbortSign ∷ xs) ys h k = Passable-append xs ys h k
Passable-append (ShortSign s a b ∷ xs) ys h k = absurd h
Passable-append (RtSign b ∷ xs) ys h k = absurd h
Passable-append (EndSign ∷ xs) ys h k = absurd h
