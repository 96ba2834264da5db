-- What a handle is for as the code keeps it.
use Rattle.mb_outside.specs.Place.{Place, Opened, Created}
use Rattle.mb_outside.specs.declared.memory_file.Place.{Place as Kept}
use Rattle.mb_outside.specs.declared.memory_file.Place.TheVariants as kept

abbrev pub place_of : Kept → Place
place_of (kept.Opened file at) = Opened file at
place_of (kept.Created name) = Created name.bytes
