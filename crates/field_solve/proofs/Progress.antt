-- One row more.
use Rattle.std.proofs.Common.{◌≡◌, ℕ, ◌+◌, ◌%◌, ◌<◌, ◌≤◌, ◌⊎◌, List, [], ◌∷◌, ◌++◌, length, get_or, slice_index, inl, inr, arith, refl, sym, ap, ◌∙◌, subst, ℤ}
use Rattle.std.specs.List.{remove}
use Rattle.std.proofs.lemmas.Bool.{cases_lt, cases_eq}
use Rattle.std.proofs.lemmas.Grind.{in_remove, get_or_default_zero}
use Rattle.std.proofs.lemmas.List.{get_or_read, get_or_push, get_or_append_left, get_or_past, length_push}
use Rattle.std.proofs.lemmas.List.Edits.{get_or-remove_below, get_or-remove_above}
use Rattle.ntru_ring.specs.Polynomials.{coefficient}
use Rattle.field_solve.specs.Elimination.{AreCleared, AreCombined, AreRows, Combines, IsFree, IsPivot, IsRow, Progress, StandsAt, nothing}
use Rattle.field_solve.specs.declared.rows.Row.{Row}

pub StandsAt-push : (rows : List Row) (last row : Row) (place : ℕ) → StandsAt rows place row → StandsAt (rows ++ last ∷ []) place row
StandsAt-push rows last row place h = record {
  within = omega (arith, length_push rows last, h.within);
  is = h.is ∙ sym (get_or_append_left rows (last ∷ []) row place h.within);
}

pub StandsAt-last : (rows : List Row) (last : Row) → StandsAt (rows ++ last ∷ []) (length rows) last
StandsAt-last rows last = record {
  within = omega (arith, length_push rows last);
  is = sym (get_or_push rows last last (length rows) refl);
}

pub StandsAt-cases : (rows : List Row) (last row : Row) (place : ℕ) → StandsAt (rows ++ last ∷ []) place row → StandsAt rows place row ⊎ ((place ≡ length rows) × (row ≡ last))
StandsAt-cases rows last row place h = elim (cases_lt place (length rows)) [
  | inl below ↦ inl (record { within = below; is = h.is ∙ get_or_append_left rows (last ∷ []) row place below })
  | inr above ↦
      let e : place ≡ length rows = omega (arith, length_push rows last, h.within) in
      inr (e, h.is ∙ get_or_push rows last row place (sym e))
]

AreRows-push : (rows : List Row) (row : Row) → AreRows rows → IsRow (length rows) row
    → ((place : ℕ) (earlier : Row) → StandsAt rows place earlier → slice_index row.entries.items earlier.pivot ≡ 0)
    → AreRows (rows ++ row ∷ [])
AreRows-push rows row hold form cleared = record {
  each = λ place other stands. elim (StandsAt-cases rows row other place stands) [
    | inl before ↦ hold.each place other before
    | inr last ↦ subst (IsRow place) (sym last.1) (subst (λ (n : ℕ). IsRow n row) (sym last.0) form)
  ];
  clear = λ before place earlier other below stands_before stands.
      let in_front : place ≤ length rows = omega (arith, stands.within, length_push rows row) in
      elim (StandsAt-cases rows row earlier before stands_before) [
        | inl first ↦ elim (StandsAt-cases rows row other place stands) [
          | inl second ↦ hold.clear before place earlier other below first second
          | inr last ↦ subst (λ (r : Row). slice_index r.entries.items earlier.pivot ≡ 0) (sym last.1) (cleared before earlier first)
        ]
        | inr late ↦ absurd (omega (arith, late.0))
      ];
}

AreCombined-push : (prime : ℕ) (poly : ℕ → ℤ) (rows : List Row) (row : Row) → AreCombined prime poly rows → Combines prime poly nothing row.combination.items row.entries.items → AreCombined prime poly (rows ++ row ∷ [])
AreCombined-push prime poly rows row combined new = record {
  each = λ place other stands. elim (StandsAt-cases rows row other place stands) [
    | inl before ↦ combined.each place other before
    | inr last ↦ subst (λ (r : Row). Combines prime poly nothing r.combination.items r.entries.items) (sym last.1) new
  ];
}

-- a column is taken out of the free ones and is the pivot of a row more
pub Progress-push : (prime : ℕ) (poly : List ℤ) (columns : List ℕ) (rows : List Row) (place : ℕ) (row : Row) (columns-after : List ℕ) (rows-after : List Row)
    → Progress prime poly columns rows
    → place < length columns
    → columns-after ≡ remove columns place
    → length columns-after + 1 ≡ length columns
    → rows-after ≡ rows ++ row ∷ []
    → row.pivot ≡ slice_index columns place
    → IsRow (length rows) row
    → ((before : ℕ) (earlier : Row) → StandsAt rows before earlier → slice_index row.entries.items earlier.pivot ≡ 0)
    → Combines prime (coefficient poly) nothing row.combination.items row.entries.items
    → Progress prime poly columns-after rows-after
Progress-push prime poly columns rows place row columns-after rows-after progress within removed shorter pushed pivot form cleared combined =
    subst (Progress prime poly columns-after) (sym pushed) (record {
      count = omega (arith, progress.count, shorter, length_push rows row);
      within = record {
        below = λ k. elim (cases_lt k place) [
          | inl below ↦ let same : slice_index columns-after k ≡ slice_index columns k = ap (λ (l : List ℕ). slice_index l k) removed ∙ get_or-remove_below columns place 0 k below within in omega (arith, progress.within.below k)
          | inr above ↦ let same : slice_index columns-after k ≡ slice_index columns (k + 1) = ap (λ (l : List ℕ). slice_index l k) removed ∙ get_or-remove_above columns place 0 k above within in omega (arith, progress.within.below (k + 1))
        ];
      };
      covered = λ column column_within. elim (progress.covered column column_within) [
        | inl free ↦ elim (cases_eq free.0 place) [
          | inl e ↦ inr (length rows, row, StandsAt-last rows row, pivot ∙ ap (slice_index columns) (sym e) ∙ free.2)
          | inr apart ↦
              let read : column ≡ get_or columns free.0 column = sym (get_or_default_zero columns free.0 column free.1 ∙ free.2) in
              let found = in_remove columns place free.0 column within free.1 read apart in
              let at : column ≡ get_or (remove columns place) found.1.0 0 = get_or_read (remove columns place) found.1.0 column found.1.1 (sym found.1.2) 0 in
              inl (subst (λ (l : List ℕ). IsFree l column) (sym removed) (found.1.0, found.1.1, sym at))
        ]
        | inr taken ↦ inr (taken.0, taken.1, StandsAt-push rows row taken.1 taken.0 taken.2, taken.3)
      ];
      rows_hold = AreRows-push rows row progress.rows_hold form cleared;
      combined = AreCombined-push prime (coefficient poly) rows row progress.combined combined;
    })

-- where no free column is left with anything but a multiple of the prime, no column is
pub cleared_everywhere : (prime : ℕ) (poly : List ℤ) (columns : List ℕ) (rows : List Row) (entries : List ℕ)
    → Progress prime poly columns rows
    → AreCleared prime (length rows) rows entries
    → ((place : ℕ) → place < length columns → slice_index entries (slice_index columns place) % prime ≡ 0)
    → (column : ℕ) → column < 761 → slice_index entries column % prime ≡ 0
cleared_everywhere prime poly columns rows entries progress cleared none column within = elim (progress.covered column within) [
  | inl free ↦ subst (λ (k : ℕ). slice_index entries k % prime ≡ 0) free.2 (none free.0 free.1)
  | inr taken ↦ subst (λ (k : ℕ). slice_index entries k % prime ≡ 0) taken.3 (cleared.at taken.0 taken.1 taken.2.within taken.2)
]

-- before the first row
pub Progress-none : (prime : ℕ) (poly : List ℤ) (columns : List ℕ) (rows : List Row) → length columns ≡ 761 → ((column : ℕ) → column < 761 → slice_index columns column ≡ column) → rows ≡ [] → Progress prime poly columns rows
Progress-none prime poly columns rows whole each none =
    let empty : length rows ≡ 0 = ap length none in
    record {
      count = omega arith;
      within = record {
        below = λ column. elim (cases_lt column 761) [
          | inl below ↦ omega (arith, each column below)
          | inr above ↦ let past : length columns ≤ column = omega arith in omega (arith, get_or_past columns column 0 past)
        ];
      };
      covered = λ column within. inl (column, omega arith, each column within);
      rows_hold = record {
        each = λ place row stands. absurd (omega (arith, stands.within));
        clear = λ before place earlier row below first second. absurd (omega (arith, second.within));
      };
      combined = record { each = λ place row stands. absurd (omega (arith, stands.within)) };
    }

-- with as many rows as columns, each column is a pivot
pub Progress-all : (prime : ℕ) (poly : List ℤ) (columns : List ℕ) (rows : List Row) → Progress prime poly columns rows → length rows ≡ 761 → (column : ℕ) → column < 761 → IsPivot rows column
Progress-all prime poly columns rows progress all column within = elim (progress.covered column within) [
  | inl free ↦ absurd (omega (arith, progress.count, free.1))
  | inr taken ↦ taken
]
