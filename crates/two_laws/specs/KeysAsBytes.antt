-- Of two sheets good alone, keys are the same exactly if their bytes are; so the conditions of refusal come out of bytes.
use Rattle.std.specs.Prelude.{◌≡◌, ◌&&◌, ◌∷◌}
use Rattle.std.proofs.Common.{◌∙◌}
use Rattle.lists.specs.Basics.{ℕ, refl, sym, ap, ap₂, Bool, true, false, List, [], map, length, take, and_fst}
use Rattle.lists.specs.Basics.{and_snd, eq_list, eq_list_refl, all}
use Rattle.model.specs.Types.{Record}
use Rattle.model.specs.Layouts.{record_layout, key_layout, image_layout, columns_layout, offset, key_bytes}
use Rattle.model.specs.Lines.{line_set, lines_of, lines_set}
use Rattle.model.specs.Records.{record_in, records_good, key_in_range, same_key}
use Rattle.sheet_laws.specs.Lines.{line_bytes, line-length, line_end_lem}
use Rattle.sheet_laws.specs.Keys.{key_ranged, line-ranged, line-key_text, key_same}
use Rattle.model.specs.TwoSheets.{plain_layout, bookkeeping_layout, plain_bytes, bookkeeping_bytes, end_of, plain_record, bookkeeping_record, plain_alone}
use Rattle.model.specs.TwoSheets.{bookkeeping_alone, same_keys_in, same_keys}
use Rattle.two_laws.specs.Deciding.{whole, keys_agree, lines_agree, fill_plain, fill_bookkeeping}
use Rattle.two_laws.specs.TwoLines.{filled_plain_key, filled_plain-set, filled-plain_record, filled_bookkeeping_key, filled_bookkeeping-set}
use Rattle.two_laws.specs.TwoLines.{filled-bookkeeping_record}

and-true : (a : Bool) {b : Bool} → b ≡ true → (a && b) ≡ a
and-true true e = e
and-true false e = refl

plain-length : (p : List ℕ) → line_set plain_layout p ≡ true → length p ≡ plain_bytes
unfolding line_bytes plain_layout record_layout key_layout image_layout columns_layout
plain-length p h = line-length plain_layout p h

bookkeeping-length : (b : List ℕ) → line_set bookkeeping_layout b ≡ true → length b ≡ bookkeeping_bytes
unfolding line_bytes bookkeeping_layout record_layout
bookkeeping-length b h = line-length bookkeeping_layout b h

plain_end : (p : List ℕ) → line_set plain_layout p ≡ true → end_of p ≡ 10 ∷ []
unfolding offset plain_layout record_layout key_layout image_layout columns_layout
plain_end p h = line_end_lem plain_layout p h

-- one line of each
line_keys : (p b : List ℕ) → line_set plain_layout p ≡ true → line_set bookkeeping_layout b ≡ true → keys_agree p b ≡ same_key (plain_record p).key (bookkeeping_record b).key
unfolding keys_agree
line_keys p b h g =
    let l : length p ≡ plain_bytes = plain-length p h in
    let m : length b ≡ bookkeeping_bytes = bookkeeping-length b g in
    let x : line_set record_layout (fill_plain p) ≡ true = filled_plain-set p l ∙ h in
    let y : line_set record_layout (fill_bookkeeping b) ≡ true = filled_bookkeeping-set b m ∙ g in
    let k = (record_in (fill_bookkeeping b)).key in
    let r : key_in_range k ≡ true = key_ranged (record_in (fill_bookkeeping b)) (line-ranged (fill_bookkeeping b) y) in
    let e : eq_list (end_of p) (10 ∷ []) ≡ true = ap (λ (t : List ℕ). eq_list t (10 ∷ [])) (plain_end p h) ∙ eq_list_refl (10 ∷ []) in
    and-true (eq_list (take key_bytes p) (take key_bytes b)) e
    ∙ (ap₂ eq_list (sym (filled_plain_key p l)) (sym (filled_bookkeeping_key b m) ∙ line-key_text (fill_bookkeeping b) y)
    ∙ (key_same (fill_plain p) x k r
    ∙ ap₂ (λ (u v : Record). same_key u.key v.key) (filled-plain_record p l) (filled-bookkeeping_record b m)))

lines_keys : (ps bs : List (List ℕ)) → all (line_set plain_layout) ps ≡ true → all (line_set bookkeeping_layout) bs ≡ true → lines_agree ps bs ≡ same_keys_in (map plain_record ps) (map bookkeeping_record bs)
unfolding lines_agree same_keys_in all
lines_keys [] [] h g = refl
lines_keys [] (b ∷ bs) h g = refl
lines_keys (p ∷ ps) [] h g = refl
lines_keys (p ∷ ps) (b ∷ bs) h g =
    ap₂ ◌&&◌
    (line_keys p b (and_fst (line_set plain_layout p) (all (line_set plain_layout) ps) h) (and_fst (line_set bookkeeping_layout b) (all (line_set bookkeeping_layout) bs) g))
    (lines_keys ps bs (and_snd (line_set plain_layout p) (all (line_set plain_layout) ps) h) (and_snd (line_set bookkeeping_layout b) (all (line_set bookkeeping_layout) bs) g))

-- keys-as-bytes
pub keys_as_bytes : (ps bs : List ℕ) → plain_alone ps ≡ true → bookkeeping_alone bs ≡ true → lines_agree (lines_of plain_bytes ps) (lines_of bookkeeping_bytes bs) ≡ same_keys ps bs
unfolding plain_alone bookkeeping_alone lines_set same_keys
keys_as_bytes ps bs h g =
    let f = all (line_set plain_layout) (lines_of plain_bytes ps) in
    let e = all (line_set bookkeeping_layout) (lines_of bookkeeping_bytes bs) in
    lines_keys (lines_of plain_bytes ps) (lines_of bookkeeping_bytes bs)
    (and_snd (whole plain_bytes ps) f (and_fst (whole plain_bytes ps && f) (records_good (map plain_record (lines_of plain_bytes ps))) h))
    (and_snd (whole bookkeeping_bytes bs) e (and_fst (whole bookkeeping_bytes bs && e) (records_good (map bookkeeping_record (lines_of bookkeeping_bytes bs))) g))
