use Rattle.std.proofs.Common.{◌≡◌, ℕ, zero, suc, get_or, replicate, refl}
use Rattle.doors.proofs.Levels.new.Goals as goal

zeros : (n j : ℕ) → ◌≡◌ {A = ℕ} (get_or (replicate n 0) j 0) 0
zeros zero j = refl
zeros (suc n) zero = refl
zeros (suc n) (suc j) = zeros n j

pub returns : goal.returns
returns c = record { zero = λ i. record { semaphore = λ j. zeros 256 j i; counter = λ j. zeros 256 j i } }
