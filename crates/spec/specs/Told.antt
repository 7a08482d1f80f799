-- "A refusal returns number and place": what each refusal is in the table.
use Rattle.spec.specs.Refusals.{of_book, of_entry}
use Rattle.spec.specs.declared.Reason.{Reason}
use Rattle.spec.specs.declared.Refused.{Refused}
use Rattle.spec.specs.declared.Refused.TheVariants.{Room, Size, Count, Contents, Relations, Layout, Unsafe, Repeats, Rows, NoRewriting}

abbrev pub told_of : Refused → Reason
told_of Room = of_book 1
told_of Size = of_book 2
told_of Count = of_book 3
told_of Contents = of_book 4
told_of Relations = of_book 5
told_of (Layout i) = of_entry 6 i
told_of (Unsafe i) = of_entry 7 i
told_of (Repeats i) = of_entry 8 i
told_of Rows = of_book 9
told_of NoRewriting = of_book 10
