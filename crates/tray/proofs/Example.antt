-- The line of one image, byte for byte.
use mathlib.Core.Path.{◌≡◌, refl}
use Rattle.text.specs.Text.{bytes_of, decimal, digits}
use Rattle.tray.specs.Prints.{line_of}

the_line : line_of 1 0 2147483647 ≡ bytes_of "number=1 code=0 count=2147483647\n"
unfolding line_of decimal digits
the_line = refl
