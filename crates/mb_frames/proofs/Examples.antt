-- The definitions compute.
use Rattle.std.proofs.Common.{◌≡◌, [], ◌∷◌, refl}
use Rattle.mb_frames.specs.Frames.{FrameBegin, FrameByte, FrameEnd, parts}

whole : parts (0 ∷ 2 ∷ 7 ∷ 8 ∷ []) ≡ FrameBegin 2 ∷ FrameByte 7 ∷ FrameByte 8 ∷ FrameEnd ∷ []
whole = refl

-- a frame of no bytes, and half a length
empty : parts (0 ∷ 0 ∷ 1 ∷ []) ≡ FrameBegin 0 ∷ FrameEnd ∷ []
empty = refl

-- the most significant byte comes first
unfinished : parts (1 ∷ 0 ∷ 9 ∷ []) ≡ FrameBegin 256 ∷ FrameByte 9 ∷ []
unfinished = refl
