-- The Gaussian integers that words hold.
--
--   value   the Gaussian integer of two words
use Rattle.gaussian_integers.specs.declared.parts.Parts.{Parts}
use Rattle.gaussian_integers.specs.Gaussian.{Gaussian, gauss}

abbrev pub value : Parts → Gaussian
value p = gauss p.re p.im
