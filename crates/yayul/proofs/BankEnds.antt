-- Where the words of banks end.
use Rattle.std.proofs.Common.{◌≡◌, ℕ, zero, suc, List, [], get_or, replicate, refl, ap, sym, ◌∙◌, arith}
use Rattle.yayul.specs.Layout.{Request, bank_end}
use Rattle.yayul.specs.Inside.Sound.{AreEnds}

-- no bank has a word, where there is no request
pub ends-none : (ends : List ℕ) (rs : List Request) → rs ≡ [] → ((bank : ℕ) → get_or ends bank 0 ≡ 0) → AreEnds ends rs
ends-none ends rs none zeros = λ bank lt.
    let end : bank_end rs bank ≡ 0 = ap (λ qs. bank_end qs bank) none in
    (zeros bank ∙ sym end, omega (arith, end))

pub zeros : (n bank : ℕ) → ◌≡◌ {A = ℕ} (get_or (replicate n 0) bank 0) 0
zeros zero bank = refl
zeros (suc n) zero = refl
zeros (suc n) (suc bank) = zeros n bank
