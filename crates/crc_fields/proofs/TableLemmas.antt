-- The tables hold what they are to hold.
use Rattle.std.proofs.Common.{◌≡◌, ℕ, zero, suc, ◌+◌, ◌*◌, ◌<◌, List, [], ◌∷◌, length, drop, get_or, refl, sym, ap, ◌∙◌, arith}
use Rattle.crc_fields.proofs.Chain.{after_zeros-add}
use Rattle.crc_fields.specs.Tables.{after_zeros, row, rows}
use Rattle.crc_fields.specs.declared.tables.TheConstants.{CRC32C, CRC16}

-- a row that is taken through eight bits 0 more
next : ℕ → List ℕ → List ℕ
next polynomial [] = []
next polynomial (r ∷ rs) = after_zeros polynomial 8 r ∷ next polynomial rs

-- the row r, and after each row of a table, but for its last, that row taken further
chained : ℕ → List ℕ → List (List ℕ) → List (List ℕ)
chained polynomial r [] = []
chained polynomial r (q ∷ qs) = r ∷ chained polynomial (next polynomial q) qs

next-row : (polynomial bits b n : ℕ) → next polynomial (row polynomial bits b n) ≡ row polynomial (bits + 8) b n
unfolding next
next-row polynomial bits b zero = refl
next-row polynomial bits b (suc n) =
    let here : after_zeros polynomial 8 (after_zeros polynomial bits b) ≡ after_zeros polynomial (bits + 8) b = sym (after_zeros-add polynomial bits 8 b) in
    let rest : next polynomial (row polynomial bits (b + 1) n) ≡ row polynomial (bits + 8) (b + 1) n = next-row polynomial bits (b + 1) n in
    λ i. here i ∷ rest i

-- So each entry takes eight bits to check, whichever row it stands in.
chained-rows : (polynomial bits : ℕ) (r : List ℕ) (t : List (List ℕ)) → r ≡ row polynomial bits 0 256 → t ≡ chained polynomial r t
    → t ≡ rows polynomial bits (length t)
unfolding chained
chained-rows polynomial bits r [] first is = refl
chained-rows polynomial bits r (q ∷ qs) first is =
    let front : q ≡ row polynomial bits 0 256 = ap (λ (xs : List (List ℕ)). get_or xs 0 []) is ∙ first in
    let further : next polynomial q ≡ row polynomial (bits + 8) 0 256 = ap (next polynomial) front ∙ next-row polynomial bits 0 256 in
    let rest : qs ≡ rows polynomial (bits + 8) (length qs) = chained-rows polynomial (bits + 8) (next polynomial q) qs further (ap (drop 1) is) in
    λ i. front i ∷ rest i

chained16 : CRC16 ≡ chained 0x8408 (row 0x8408 8 0 256) CRC16
unfolding after_zeros next chained
chained16 = refl

table16 : CRC16 ≡ rows 0x8408 8 16
table16 = chained-rows 0x8408 8 (row 0x8408 8 0 256) CRC16 refl chained16

chained32 : CRC32C ≡ chained 0x82F63B78 (row 0x82F63B78 8 0 256) CRC32C
unfolding after_zeros next chained
chained32 = refl

table32 : CRC32C ≡ rows 0x82F63B78 8 16
table32 = chained-rows 0x82F63B78 8 (row 0x82F63B78 8 0 256) CRC32C refl chained32

get_or-row : (polynomial bits b n i e : ℕ) → i < n → get_or (row polynomial bits b n) i e ≡ after_zeros polynomial bits (b + i)
get_or-row polynomial bits b zero i e inside = absurd (omega arith)
get_or-row polynomial bits b (suc n) zero e inside = let same : b ≡ b + 0 = omega arith in ap (after_zeros polynomial bits) same
get_or-row polynomial bits b (suc n) (suc i) e inside =
    let same : b + 1 + i ≡ b + suc i = omega arith in
    get_or-row polynomial bits (b + 1) n i e (omega arith) ∙ ap (after_zeros polynomial bits) same

get_or-rows : (polynomial bits n k : ℕ) (d : List ℕ) → k < n → get_or (rows polynomial bits n) k d ≡ row polynomial (bits + 8 * k) 0 256
get_or-rows polynomial bits zero k d inside = absurd (omega arith)
get_or-rows polynomial bits (suc n) zero d inside = let same : bits ≡ bits + 8 * 0 = omega arith in ap (λ (x : ℕ). row polynomial x 0 256) same
get_or-rows polynomial bits (suc n) (suc k) d inside =
    let same : bits + 8 + 8 * k ≡ bits + 8 * suc k = omega arith in
    get_or-rows polynomial (bits + 8) n k d (omega arith) ∙ ap (λ (x : ℕ). row polynomial x 0 256) same

entry-rows : (polynomial k b : ℕ) (d : List ℕ) (e : ℕ) → k < 16 → b < 256
    → get_or (get_or (rows polynomial 8 16) k d) b e ≡ after_zeros polynomial (8 * (k + 1)) b
entry-rows polynomial k b d e row_inside inside =
    let same_octet : 0 + b ≡ b = omega arith in
    let same_bits : 8 + 8 * k ≡ 8 * (k + 1) = omega arith in
    ap (λ (xs : List ℕ). get_or xs b e) (get_or-rows polynomial 8 16 k d row_inside)
    ∙ (get_or-row polynomial (8 + 8 * k) 0 256 b e inside
    ∙ (ap (after_zeros polynomial (8 + 8 * k)) same_octet ∙ ap (λ (x : ℕ). after_zeros polynomial x b) same_bits))

-- what a table holds for an octet in its row k
pub entry16 : (k b : ℕ) (d : List ℕ) (e : ℕ) → k < 16 → b < 256 → get_or (get_or CRC16 k d) b e ≡ after_zeros 0x8408 (8 * (k + 1)) b
entry16 k b d e row_inside inside = ap (λ (t : List (List ℕ)). get_or (get_or t k d) b e) table16 ∙ entry-rows 0x8408 k b d e row_inside inside

pub entry32 : (k b : ℕ) (d : List ℕ) (e : ℕ) → k < 16 → b < 256 → get_or (get_or CRC32C k d) b e ≡ after_zeros 0x82F63B78 (8 * (k + 1)) b
entry32 k b d e row_inside inside = ap (λ (t : List (List ℕ)). get_or (get_or t k d) b e) table32 ∙ entry-rows 0x82F63B78 k b d e row_inside inside
