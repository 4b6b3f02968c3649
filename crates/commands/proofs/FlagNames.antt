-- Names of flags, written one after another.
use Rattle.std.proofs.Common.{◌≡◌, ℕ, ◌+◌, ◌<◌, ◌==◌, Bool, true, false, List, [], ◌∷◌, ◌++◌, length, get_or, take, map}
use Rattle.std.proofs.Common.{Option, refl, sym, ap, ◌∙◌, subst, append_assoc, append-nil, cond, codes, ◌≤◌, not}
use Rattle.std.proofs.lemmas.List.{map-append, get_or-map, length-map, take_all, Elements.filter_more}
use Rattle.std.proofs.KnownBytes.{Appends-nil, Appends-trans}
use Rattle.std.specs.{List.join_with_byte, List.filter, Io.KnownBytes.Appends}
use Rattle.commands.specs.Replies.{bar, flags, is_raised, raised_names, status_text}
use lib.Bits.{and_zero_r}

-- the separator before the next name
abbrev pub bar_after : List (List ℕ) → List ℕ
bar_after [] = []
bar_after (name ∷ names) = bar ∷ []

-- the names of the raised flags among the first rows have been written
pub record IsNamedTo (status : ℕ) (table : List (List ℕ × ℕ)) (place : ℕ) (separator : List ℕ)
    (old new : Option (List ℕ)) : Type 0 where
  pub separator_is : separator ≡ bar_after (raised_names status (take place table))
  pub written : Appends old new (join_with_byte bar (raised_names status (take place table)))

-- at the start, no name has been written
pub name_none : (status : ℕ) (table : List (List ℕ × ℕ)) (old : Option (List ℕ)) → IsNamedTo status table 0 [] old old
name_none status table old = record { separator_is = refl; written = Appends-nil old }

-- one more name is joined by a bar, unless it is the first
join-push : (names : List (List ℕ)) (name : List ℕ)
    → join_with_byte bar (names ++ name ∷ []) ≡ join_with_byte bar names ++ (bar_after names ++ name)
join-push [] name = refl
join-push (x ∷ []) name = refl
join-push (x ∷ y ∷ names) name =
    ap (λ l. x ++ bar ∷ l) (join-push (y ∷ names) name)
    ∙ sym (append_assoc x (bar ∷ join_with_byte bar (y ∷ names)) (bar ∷ name))

-- after a name there is a bar before the next
bar-push : (names : List (List ℕ)) (name : List ℕ) → bar_after (names ++ name ∷ []) ≡ bar ∷ []
bar-push [] name = refl
bar-push (x ∷ names) name = refl

-- the names after one more row
names_more : (status place : ℕ) (table : List (List ℕ × ℕ)) (flag fallback : List ℕ × ℕ) (raised : Bool)
    → place < length table → get_or table place fallback ≡ flag → is_raised status flag ≡ raised
    → raised_names status (take (place + 1) table)
    ≡ raised_names status (take place table) ++ map (λ (row : List ℕ × ℕ). row.0) (cond raised (flag ∷ []) [])
names_more status place table flag d b within e raised =
    let one : List ℕ × ℕ → List (List ℕ × ℕ) =
    λ x. filter (is_raised status) (take place table) ++ cond (is_raised status x) (x ∷ []) [] in
    ap (map (λ (x : List ℕ × ℕ). x.0))
    (filter_more (is_raised status) table place d within
    ∙ ap one e ∙ ap (λ v. filter (is_raised status) (take place table) ++ cond v (flag ∷ []) []) raised)
    ∙ map-append _ (filter (is_raised status) (take place table)) (cond b (flag ∷ []) [])

-- a raised flag is named after those before it
named : (status place : ℕ) (table : List (List ℕ × ℕ)) (flag fallback : List ℕ × ℕ)
    (separator : List ℕ) (old now new : Option (List ℕ)) → place < length table → get_or table place fallback ≡ flag
    → is_raised status flag ≡ true → IsNamedTo status table place separator old now
    → Appends now new (separator ++ flag.0) → IsNamedTo status table (place + 1) (bar ∷ []) old new
named status place table flag d separator old now new within e raised so_far more_is =
    let more = names_more status place table flag d true within e raised in
    let names = raised_names status (take place table) in
    let text : join_with_byte bar (raised_names status (take (place + 1) table))
    ≡ join_with_byte bar names ++ (separator ++ flag.0) = ap (join_with_byte bar) more ∙ join-push names flag.0
    ∙ ap (λ l. join_with_byte bar names ++ (l ++ flag.0)) (sym so_far.separator_is) in
    record {
      separator_is = sym (ap bar_after more ∙ bar-push names flag.0);
      written = subst (Appends old new) (sym text) (Appends-trans old now new _ _ so_far.written more_is);
    }

-- a flag that is not raised is skipped
passed : (status place : ℕ) (table : List (List ℕ × ℕ)) (flag fallback : List ℕ × ℕ) (separator : List ℕ)
    (old now : Option (List ℕ))
    → place < length table → get_or table place fallback ≡ flag → is_raised status flag ≡ false
    → IsNamedTo status table place separator old now → IsNamedTo status table (place + 1) separator old now
passed status place table flag d separator old now within e raised so_far =
    let same : raised_names status (take (place + 1) table) ≡ raised_names status (take place table) =
    names_more status place table flag d false within e raised ∙ append-nil _ in
    record {
      separator_is = so_far.separator_is ∙ sym (ap bar_after same);
      written = subst (λ names. Appends old now (join_with_byte bar names)) (sym same) so_far.written;
    }

-- the row at a place of a table that is mapped from other items
at_place : {A : Type 0} (row : A → List ℕ × ℕ) (items : List A) (place : ℕ) (fallback : A) → place < length items
    → get_or (map row items) place (row fallback) ≡ row (get_or items place fallback)
at_place row items place d within = get_or-map row items place d (row d) within

-- a raised flag is written after those before it
pub name_more : {A : Type 0} (row : A → List ℕ × ℕ) (items : List A) (fallback : A)
    (status place : ℕ) (separator name : List ℕ) (old now new : Option (List ℕ)) → place < length items
    → is_raised status (row (get_or items place fallback)) ≡ true → name ≡ (row (get_or items place fallback)).0
    → IsNamedTo status (map row items) place separator old now → Appends now new (separator ++ name)
    → IsNamedTo status (map row items) (place + 1) (bar ∷ []) old new
name_more row items d status place separator name old now new within raised name_is so_far more_is =
    let inside : place < length (map row items) = rw (length-map items row) within in
    named status place (map row items) (row (get_or items place d)) (row d) separator old now new inside
    (at_place row items place d within) raised so_far (subst (λ l. Appends now new (separator ++ l)) name_is more_is)

-- a flag that is not raised leaves the written names unchanged
pub name_same : {A : Type 0} (row : A → List ℕ × ℕ) (items : List A) (fallback : A) (status place : ℕ)
    (separator : List ℕ) (old now : Option (List ℕ)) → place < length items
    → is_raised status (row (get_or items place fallback)) ≡ false
    → IsNamedTo status (map row items) place separator old now
    → IsNamedTo status (map row items) (place + 1) separator old now
name_same row items d status place separator old now within raised so_far =
    let inside : place < length (map row items) = rw (length-map items row) within in
    passed status place (map row items) (row (get_or items place d)) (row d) separator old now inside
    (at_place row items place d within) raised so_far

-- the row of OK adds no name
not_ok : (status : ℕ) → raised_names status ((codes "OK", 0) ∷ flags) ≡ raised_names status flags
not_ok status =
    let none : is_raised status (codes "OK", 0) ≡ false = ap (λ n. not (n == 0)) (and_zero_r status) in
    ap (λ b. map (λ (x : List ℕ × ℕ). x.0)
    (cond b ((codes "OK", 0) ∷ filter (is_raised status) flags) (filter (is_raised status) flags))) none

-- after the last row all names are written; the row of the empty status adds none
pub name_all : {A : Type 0} (row : A → List ℕ × ℕ) (items : List A) (status place : ℕ) (separator : List ℕ)
    (old new : Option (List ℕ))
    → length items ≤ place → map row items ≡ (codes "OK", 0) ∷ flags → (status == 0) ≡ false
    → IsNamedTo status (map row items) place separator old new → Appends old new (status_text status)
name_all row items status place separator old new past table_is some so_far =
    let past_table : length (map row items) ≤ place = rw (length-map items row) past in
    let names = ap (raised_names status) (take_all place (map row items) past_table ∙ table_is) ∙ not_ok status in
    let text : status_text status ≡ join_with_byte bar (raised_names status (take place (map row items))) =
    ap (λ b. cond b (codes "OK") (join_with_byte bar (raised_names status flags))) some ∙
    ap (join_with_byte bar) (sym names) in
    subst (Appends old new) (sym text) so_far.written
