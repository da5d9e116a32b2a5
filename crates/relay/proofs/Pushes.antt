-- A text that is appended part by part.
use Rattle.std.proofs.Common.{◌≡◌, ℕ, List, ◌++◌, ap, ◌∙◌, append_assoc}

pub pushed : (before between after front back : List ℕ) → between ≡ before ++ front → after ≡ between ++ back → after ≡ before
    ++ (front ++ back)
pushed before between after front back first second = second ∙ ap (λ l. l ++ back) first ∙ append_assoc before front back
