-- What is to be said of a book and a table, by what the loading said.
use mathlib.Core.Path.{◌≡◌, sym, subst}
use mathlib.Core.List.{List}
use Prim.Native.Nat.{ℕ, ◌<◌, ◌≤◌}
use Rattle.std.specs.Prelude.{Result, Ok, Err}
use Rattle.spec.specs.Loading.{LoadSays}
use Rattle.spec.specs.TableLoading.{least_table, TableRefusal, one, then, JudgeSays}
use Rattle.spec.specs.Refusals.{of_book}
use Rattle.spec.specs.Told.{told_of}
use Rattle.spec.specs.declared.Refused.{Refused}

module _ (book : List ℕ) {room : ℕ} where
  pub too_small : (e : Refused) → told_of e ≡ of_book 1 → room < least_table → JudgeSays book room (Err e)
  too_small e is h = subst (TableRefusal book room) (sym is) (one h)

  pub passed_on : (r : Result ℕ Refused) → least_table ≤ room → LoadSays book r → JudgeSays book room r
  passed_on (Ok n) h says = (h, says)
  passed_on (Err e) h says = then h says.0 says.1
