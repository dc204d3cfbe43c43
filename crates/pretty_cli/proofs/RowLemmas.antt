-- The rows of lines, and their order.
use Rattle.std.proofs.Common.{◌≡◌, ℕ, ◌<◌, ◌≤◌, ◌+◌, List, [], ◌∷◌, ◌++◌, length, drop, get_or, Bor, refl, add-one}
use Rattle.std.proofs.Math.Seq.{drop-cons}
use Rattle.std.proofs.lemmas.Fn.{always_returns_same}
use Rattle.std.proofs.lemmas.List.{append_assoc, append-nil, drop_all}
use Rattle.std.specs.Fn.{Called, ComputesKey}
use Rattle.std.specs.List.Sorted.{IsSortedByKey}
use denote.Param.Members.{Mut}
use Rattle.pretty_cli.specs.declared.context.Context.{Context}
use Rattle.pretty_cli.specs.declared.place.Place.{Place}
use Rattle.pretty_cli.specs.declared.row.Row.{Row}
use Rattle.pretty_cli.specs.Contexts.{start}
use Rattle.pretty_cli.specs.Fields.{texts_of}
use Rattle.pretty_cli.specs.Orders.{place_cmp}
use Rattle.pretty_cli.specs.Texts.{AreInOrder, AreRowsBelow, IsRowOf}

-- the rows so far, and those of the lines that are left, are the rows of all lines
abbrev pub AreRowsSoFar : List (Bor (List ℕ)) → ℕ → Context → List Row → Type 0
AreRowsSoFar lines i context rows =
    (rest : List Row) → AreRowsBelow context (texts_of (drop i lines)) rest → AreRowsBelow start (texts_of lines) (rows ++ rest)

pub next_row : (lines : List (Bor (List ℕ))) (i : ℕ) (before : Context) (rows : List Row) (row : Row) (d : Bor (List ℕ)) → i < length lines
    → AreRowsSoFar lines i before rows → IsRowOf before (get_or lines i d).now row → AreRowsSoFar lines (i + 1) row.context (rows ++ row ∷ [])
next_row lines i before rows row d l sofar is rest below =
    let low = rw add-one at below in
    rw append_assoc (sofar (row ∷ rest) (rw (drop-cons lines i d l) (row, rest, is, low, refl)))

pub all_rows : (lines : List (Bor (List ℕ))) (i : ℕ) (context : Context) (rows : List Row) → length lines ≤ i → AreRowsSoFar lines i context rows → AreRowsBelow start (texts_of lines) rows
all_rows lines i context rows l sofar = rw append-nil at (sofar [] (rw (drop_all i lines l) refl))

pub in_order : {F : Type 0} {g : Mut F (Bor Row × Unit {0}) Place} {f : F} (rows : List Row) → ((k : Row → Place) → ComputesKey g k f → IsSortedByKey k place_cmp rows)
    → ((a : Bor Row × Unit {0}) (r : Place) (f' : F) → Called g f a r f' → (r ≡ a.0.now.place) × (f' ≡ f)) → AreInOrder rows
in_order {g = g} {f = f} rows up h = up (λ row. row.place) (always_returns_same g (λ a r. r ≡ a.0.now.place) f h)
