-- The lines that the programs print, byte for byte.
use Rattle.std.specs.Prelude.{ℕ, List, ◌++◌, codes, decimal}

-- "refused NUMBER at PLACE"
abbrev pub refusal_line : ℕ → ℕ → List ℕ
refusal_line number place = codes "refused " ++ (decimal number ++ (codes " at " ++ (decimal place ++ codes "\n")))

-- the lengths of answer and witness
abbrev pub lengths_line : ℕ → ℕ → List ℕ
lengths_line answer witness = codes "done " ++ (decimal answer ++ (codes " " ++ (decimal witness ++ codes "\n")))

abbrev pub four_line : ℕ → ℕ → ℕ → ℕ → List ℕ
four_line a b c d = decimal a ++ (codes " " ++ (decimal b ++ (codes " " ++ (decimal c ++ (codes " " ++ (decimal d ++ codes "\n"))))))
