-- No answer of these calls differs from the definitions'.
use mathlib.Core.Path.{◌≡◌, refl}
use mathlib.Core.List.{[]}
use Rattle.conformance.specs.Wrong.{wrong}
use Rattle.conformance.specs.Part17.{cases}

pub none-wrong : wrong cases ≡ []
unfolding wrong cases
none-wrong = refl
