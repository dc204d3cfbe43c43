-- Printing parts one after another.
use Rattle.std.proofs.Common.{◌≡◌, ℕ, ◌+◌, ◌≤◌, ◌<◌, List, [], ◌∷◌, ◌++◌, length, take, drop, get_or, map, Option, ◌⊎◌, inl, inr, refl, sym, ◌∙◌, ap, append_assoc}
use Rattle.std.proofs.lemmas.List.{append-nil, map-append, take_all, take_more, drop_more, take-append-drop}
use Rattle.std.specs.Prelude.{Result, Ok, Err}
use Rattle.std.specs.Io.KnownBytes.{append_known}
use Rattle.mystery_io.specs.Prefixes.{AppendsPrefix}
use Rattle.mystery_io.proofs.KnownLemmas.{append_nothing}
use Rattle.text_rows.specs.Printing.{Prints, PrintsText, print_faults}
use Rattle.text_rows.specs.TextsOfParts.{AreTexts, PrintsParts, PrintsPrefix, PrintsTexts}
use Rattle.text_rows.specs.declared.print_fault.PrintFault.{PrintFault}
use Rattle.text_rows.proofs.PrintLemmas.{prints_more, prints_nothing, prefix_after, prefix_flushed, flushed_all}

-- a text of some parts and one of others are one of both
pub texts_more : {X : Type 0} (R : X → List ℕ → Type 0) (ps qs : List X) (a b : List ℕ) → AreTexts R ps a → AreTexts R qs b → AreTexts R (ps ++ qs) (a ++ b)
texts_more R [] qs a b h k = rw h k
texts_more R (p ∷ ps) qs a b h k = (h.0, h.1 ++ b, h.2, texts_more R ps qs h.1 b h.3 k, ap (λ t. t ++ b) h.4 ∙ append_assoc h.0 h.1 b)

-- a text of one part
pub text_of_one : {X : Type 0} (R : X → List ℕ → Type 0) (p : X) (a : List ℕ) → R p a → AreTexts R (p ∷ []) a
text_of_one R p a h = (a, [], h, refl, sym (append-nil a))

pub parts_none : {X : Type 0} (R : X → List ℕ → Type 0) (before : Option (List ℕ)) (waits : List ℕ) → PrintsParts R [] before before waits waits
parts_none R before waits = record { text = []; told = refl; prints = prints_nothing before waits }

-- parts and then others
pub parts_more : {X : Type 0} (R : X → List ℕ → Type 0) (ps qs : List X) (before mid now : Option (List ℕ)) (waited between waits : List ℕ) → PrintsParts R ps before mid waited between → PrintsParts R qs mid now between waits → PrintsParts R (ps ++ qs) before now waited waits
parts_more R ps qs before mid now waited between waits p q = record {
  text = p.text ++ q.text;
  told = texts_more R ps qs p.text q.text p.told q.told;
  prints = prints_more before mid now waited between waits p.text q.text p.prints q.prints;
}

-- parts and then a prefix of others
pub parts_prefix : {X : Type 0} (R : X → List ℕ → Type 0) (ps qs : List X) (before mid now : Option (List ℕ)) (waited between : List ℕ) → PrintsParts R ps before mid waited between → PrintsPrefix R qs mid now between → PrintsPrefix R (ps ++ qs) before now waited
parts_prefix R ps qs before mid now waited between p f = record {
  first = ps ++ f.first;
  rest = f.rest;
  split = ap (λ rs. ps ++ rs) f.split ∙ sym (append_assoc ps f.first f.rest);
  text = p.text ++ f.text;
  told = texts_more R ps f.first p.text f.text p.told f.told;
  prefix = prefix_after before mid now waited between p.text f.text p.prints f.prefix;
}

-- a prefix of parts is one of more parts
pub prefix_of_more : {X : Type 0} (R : X → List ℕ → Type 0) (ps qs : List X) (before now : Option (List ℕ)) (waited : List ℕ) → PrintsPrefix R ps before now waited → PrintsPrefix R (ps ++ qs) before now waited
prefix_of_more R ps qs before now waited f = record {
  first = f.first;
  rest = f.rest ++ qs;
  split = ap (λ rs. rs ++ qs) f.split ∙ append_assoc f.first f.rest qs;
  text = f.text;
  told = f.told;
  prefix = f.prefix;
}

-- in a loop over items: one more, all, and a prefix of the next
pub parts_next : {X : Type 0} (R : X → List ℕ → Type 0) (xs : List X) (i : ℕ) (x : X) (before mid now : Option (List ℕ)) (waited between waits : List ℕ) → i < length xs → x ≡ get_or xs i x → PrintsParts R (take i xs) before mid waited between
    → PrintsParts R (x ∷ []) mid now between waits → PrintsParts R (take (i + 1) xs) before now waited waits
parts_next R xs i x before mid now waited between waits lt is p q =
    let more : take i xs ++ x ∷ [] ≡ take (i + 1) xs = sym (take_more xs i x lt ∙ ap (λ y. take i xs ++ y ∷ []) (sym is)) in
    rw (← more) (parts_more R (take i xs) (x ∷ []) before mid now waited between waits p q)

pub parts_all : {X : Type 0} (R : X → List ℕ → Type 0) (xs : List X) (i : ℕ) (before now : Option (List ℕ)) (waited waits : List ℕ) → length xs ≤ i → PrintsParts R (take i xs) before now waited waits → PrintsParts R xs before now waited waits
parts_all R xs i before now waited waits le p = rw (← take_all i xs le) p

pub prefix_at : {X : Type 0} (R : X → List ℕ → Type 0) (xs : List X) (i : ℕ) (x : X) (before mid now : Option (List ℕ)) (waited between : List ℕ) → i < length xs → x ≡ get_or xs i x → PrintsParts R (take i xs) before mid waited between
    → PrintsPrefix R (x ∷ []) mid now between → PrintsPrefix R xs before now waited
prefix_at R xs i x before mid now waited between lt is p f =
    let rest : drop i xs ≡ x ∷ drop (i + 1) xs = drop_more xs i x lt ∙ ap (λ y. y ∷ drop (i + 1) xs) (sym is) in
    let all : take i xs ++ (x ∷ [] ++ drop (i + 1) xs) ≡ xs = ap (λ ys. take i xs ++ ys) (sym rest) ∙ take-append-drop i xs in
    rw (← all) (parts_prefix R (take i xs) (x ∷ [] ++ drop (i + 1) xs) before mid now waited between p (prefix_of_more R (x ∷ []) (drop (i + 1) xs) mid now between f))

-- nothing of the parts was begun
pub prefix_unbegun : {X : Type 0} (R : X → List ℕ → Type 0) (ps : List X) (before : Option (List ℕ)) (waited : List ℕ) → PrintsPrefix R ps before before waited
prefix_unbegun R ps before waited = record { first = []; rest = ps; split = refl; text = []; told = refl; prefix = record { count = 0; appended = sym (append_nothing before) } }

-- one part
pub parts_one : {X : Type 0} (R : X → List ℕ → Type 0) (p : X) (a : List ℕ) (before now : Option (List ℕ)) (waited waits : List ℕ) → R p a → Prints before now waited waits a → PrintsParts R (p ∷ []) before now waited waits
parts_one R p a before now waited waits h q = record { text = a; told = text_of_one R p a h; prints = q }

pub prefix_one : {X : Type 0} (R : X → List ℕ → Type 0) (p : X) (a : List ℕ) (before now : Option (List ℕ)) (waited : List ℕ) → R p a → AppendsPrefix before now (waited ++ a) → PrintsPrefix R (p ∷ []) before now waited
prefix_one R p a before now waited h f = record { first = p ∷ []; rest = []; split = refl; text = a; told = text_of_one R p a h; prefix = f }

-- a part in a loop that was stopped in it, or before there was a text of it
pub prefix_of_part : {X : Type 0} (R : X → List ℕ → Type 0) (p : X) (before now : Option (List ℕ)) (held : List ℕ) → AppendsPrefix before now held ⊎ ((text : List ℕ) × R p text × AppendsPrefix before now (held ++ text)) → PrintsPrefix R (p ∷ []) before now held
prefix_of_part R p before now held (inl f) = record { first = []; rest = p ∷ []; split = refl; text = []; told = refl; prefix = rw (append-nil held) f }
prefix_of_part R p before now held (inr q) = prefix_one R p q.0 before now held q.1 q.2

-- a call that a fault stopped after others had met none
pub parts_part : {S T X : Type 0} (R : X → List ℕ → Type 0) (written : S → Option (List ℕ)) (faults : S → ℕ) (e : PrintFault) (old mid new : S) (parts : List X) (held holds : List ℕ) → faults mid ≡ faults old → faults new ≡ print_faults {T = T} (Err e) (faults mid)
    → PrintsPrefix R parts (written old) (written new) held → PrintsTexts {T = T} written faults (Err e) old new R parts held holds
parts_part {T = T} R written faults e old mid new parts held holds same counted prefix = record { all = tt; prefix = prefix; counted = counted ∙ ap (print_faults {T = T} (Err e)) same }

-- texts of items are texts of what a function makes of them
texts_map : {X Y : Type 0} (Q : X → List ℕ → Type 0) (R : Y → List ℕ → Type 0) (f : X → Y) → ((x : X) (a : List ℕ) → Q x a → R (f x) a) → (xs : List X) (a : List ℕ) → AreTexts Q xs a → AreTexts R (map f xs) a
texts_map Q R f to [] a h = h
texts_map Q R f to (x ∷ xs) a h = (h.0, h.1, to x h.0 h.2, texts_map Q R f to xs h.1 h.3, h.4)

pub parts_map : {X Y : Type 0} (Q : X → List ℕ → Type 0) (R : Y → List ℕ → Type 0) (f : X → Y) → ((x : X) (a : List ℕ) → Q x a → R (f x) a) → (xs : List X) (before now : Option (List ℕ)) (held holds : List ℕ) → PrintsParts Q xs before now held holds → PrintsParts R (map f xs) before now held holds
parts_map Q R f to xs before now held holds p = record { text = p.text; told = texts_map Q R f to xs p.text p.told; prints = p.prints }

pub prefix_map : {X Y : Type 0} (Q : X → List ℕ → Type 0) (R : Y → List ℕ → Type 0) (f : X → Y) → ((x : X) (a : List ℕ) → Q x a → R (f x) a) → (xs : List X) (before now : Option (List ℕ)) (held : List ℕ) → PrintsPrefix Q xs before now held → PrintsPrefix R (map f xs) before now held
prefix_map Q R f to xs before now held p = record { first = map f p.first; rest = map f p.rest; split = ap (map f) p.split ∙ map-append f p.first p.rest; text = p.text; told = texts_map Q R f to p.first p.text p.told; prefix = p.prefix }

-- parts that were printed and flushed, whole or in part
pub parts_flushed : {X : Type 0} (R : X → List ℕ → Type 0) (ps : List X) (before mid now : Option (List ℕ)) (between : List ℕ) → PrintsParts R ps before mid [] between → now ≡ append_known mid between → (text : List ℕ) × AreTexts R ps text × (now ≡ append_known before text)
parts_flushed R ps before mid now between p e = (p.text, p.told, flushed_all before mid now between p.text p.prints e)

pub parts_cut : {X : Type 0} (R : X → List ℕ → Type 0) (ps : List X) (before mid now : Option (List ℕ)) (between : List ℕ) → PrintsParts R ps before mid [] between → AppendsPrefix mid now between → PrintsPrefix R ps before now []
parts_cut R ps before mid now between p f = record { first = ps; rest = []; split = sym (append-nil ps); text = p.text; told = p.told; prefix = prefix_flushed before mid now between p.text p.prints f }

-- two calls, the second with any result
pub parts_after : {S T X : Type 0} (written : S → Option (List ℕ)) (faults : S → ℕ) (R : X → List ℕ → Type 0) (done : T) (result : Result T PrintFault) (old mid new : S) (ps qs : List X) (held between holds : List ℕ) → PrintsTexts written faults (Ok done) old mid R ps held between → PrintsTexts written faults result mid new R qs between holds
    → PrintsTexts written faults result old new R (ps ++ qs) held holds
parts_after written faults R done (Ok x) old mid new ps qs held between holds p q = record {
  all = parts_more R ps qs (written old) (written mid) (written new) held between holds p.all q.all;
  prefix = tt;
  counted = q.counted ∙ p.counted;
}
parts_after {T = T} written faults R done (Err e) old mid new ps qs held between holds p q = record {
  all = tt;
  prefix = parts_prefix R ps qs (written old) (written mid) (written new) held between p.all q.prefix;
  counted = q.counted ∙ ap (print_faults {T = T} (Err e)) p.counted;
}

-- a call that was stopped in its parts
pub parts_longer : {S T X : Type 0} (written : S → Option (List ℕ)) (faults : S → ℕ) (R : X → List ℕ → Type 0) (e : PrintFault) (old new : S) (ps qs : List X) (held between holds : List ℕ) → PrintsTexts {T = T} written faults (Err e) old new R ps held between → PrintsTexts {T = T} written faults (Err e) old new R (ps ++ qs) held holds
parts_longer written faults R e old new ps qs held between holds p = record { all = tt; prefix = prefix_of_more R ps qs (written old) (written new) held p.prefix; counted = p.counted }

-- a call that prints a text of a part
pub part_called : {S T X : Type 0} (written : S → Option (List ℕ)) (faults : S → ℕ) (R : X → List ℕ → Type 0) (p : X) (a : List ℕ) (result : Result T PrintFault) (old new : S) (held holds : List ℕ) → R p a → PrintsText written faults result old new held holds a
    → PrintsTexts written faults result old new R (p ∷ []) held holds
part_called written faults R p a (Ok x) old new held holds h q = record { all = parts_one R p a (written old) (written new) held holds h q.all; prefix = tt; counted = q.counted }
part_called written faults R p a (Err e) old new held holds h q = record { all = tt; prefix = prefix_one R p a (written old) (written new) held h q.prefix; counted = q.counted }

-- a call that prints parts of items
pub parts_called : {S T X Y : Type 0} (written : S → Option (List ℕ)) (faults : S → ℕ) (Q : X → List ℕ → Type 0) (R : Y → List ℕ → Type 0) (f : X → Y) → ((x : X) (a : List ℕ) → Q x a → R (f x) a) → (result : Result T PrintFault) (old new : S) (xs : List X) (held holds : List ℕ) → PrintsTexts written faults result old new Q xs held holds
    → PrintsTexts written faults result old new R (map f xs) held holds
parts_called written faults Q R f to (Ok x) old new xs held holds p = record { all = parts_map Q R f to xs (written old) (written new) held holds p.all; prefix = tt; counted = p.counted }
parts_called written faults Q R f to (Err e) old new xs held holds p = record { all = tt; prefix = prefix_map Q R f to xs (written old) (written new) held p.prefix; counted = p.counted }
