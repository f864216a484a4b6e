-- The number of each refusal, and the values that it names. Assumes nothing.
use Rattle.std.specs.Prelude.{ℕ, List, [], ◌∷◌, ◌++◌, codes, decimal}
use Rattle.refusal.specs.declared.Refusal.{Refusal}
use Rattle.refusal.specs.declared.Refusal.TheVariants.{BadText, TooDeep, NoNode, NoText, Gone, NotHere, Worn, Short, BadTable, BadMemory}

-- the number by which a refusal is printed
abbrev pub number : Refusal → ℕ
number (BadText p) = 1
number TooDeep = 2
number NoNode = 3
number NoText = 4
number Gone = 5
number NotHere = 6
number Worn = 7
number (Short n) = 8
number (BadTable p) = 9
number BadMemory = 10

-- the values that are printed behind it
abbrev pub values : Refusal → List ℕ
values (BadText p) = p ∷ []
values TooDeep = []
values NoNode = []
values NoText = []
values Gone = []
values NotHere = []
values Worn = []
values (Short n) = n ∷ []
values (BadTable p) = p ∷ []
values BadMemory = []

-- its name, as it is printed
abbrev pub called : Refusal → List ℕ
called (BadText p) = codes "BadText"
called TooDeep = codes "TooDeep"
called NoNode = codes "NoNode"
called NoText = codes "NoText"
called Gone = codes "Gone"
called NotHere = codes "NotHere"
called Worn = codes "Worn"
called (Short n) = codes "Short"
called (BadTable p) = codes "BadTable"
called BadMemory = codes "BadMemory"

-- each value behind a space
abbrev pub behind : List ℕ → List ℕ
behind [] = []
behind (v ∷ vs) = codes " " ++ (decimal v ++ behind vs)

-- as it is printed: `1 BadText 17`
abbrev pub printed : Refusal → List ℕ
printed r = decimal (number r) ++ (codes " " ++ (called r ++ behind (values r)))
