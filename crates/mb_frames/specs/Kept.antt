-- What a reader of frames keeps, as its place.
use Rattle.mb_frames.specs.Reading.{Place, Between, High, Within}
use Rattle.mb_frames.specs.declared.frames.Place.{Place as Kept}
use Rattle.mb_frames.specs.declared.frames.Place.TheVariants as kept

abbrev pub place_of : Kept → Place
place_of kept.Between = Between
place_of (kept.High high) = High high
place_of (kept.Within left) = Within left
