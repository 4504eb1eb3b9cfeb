-- What an optional number says of a stated one.
use Rattle.std.proofs.Common.{◌≡◌, ℕ, ◌==◌, false, Option, Some, None, Decides, ap}
use Rattle.std.specs.Option.{option_map_or}
use Rattle.std.proofs.lemmas.Bool.Decides.{Decides-like, Decides-eqb}

pub some_nat : (o : Option ℕ) (n : ℕ) → Decides (option_map_or (λ m. m == n) o false) (o ≡ Some n)
some_nat None n = (λ e. cc, λ e. cc)
some_nat (Some m) n = Decides-like (m == n) (λ e. ap Some e) (λ e. cc) (Decides-eqb m n)
