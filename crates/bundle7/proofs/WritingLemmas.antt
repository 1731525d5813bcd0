-- What is appended part by part is the spelling of the whole.
use Rattle.std.proofs.Common.{◌≡◌, ◌+◌, ◌<◌, ℕ, List, [], ◌∷◌, ◌++◌, length, take, drop, get_or, append_assoc, ap, sym, ◌∙◌}
use Rattle.std.proofs.lemmas.List.{append-nil, take_more}
use Rattle.std.proofs.Math.Seq.{drop-append_seam}
use Rattle.bundle7.specs.declared.block.Block7.{Block7}
use Rattle.bundle7.specs.Spelling.{crc_octets, with_check, block_octets, blocks_octets}

-- a block, and the check of what stands since its start
pub checked : (kind start : ℕ) (old bare mid new : List ℕ) → start ≡ length old → mid ≡ old ++ bare
    → new ≡ mid ++ crc_octets kind (drop start mid) → new ≡ old ++ with_check kind bare
unfolding with_check
checked kind start old bare mid new begins block check =
    let since : drop start mid ≡ bare = rw (begins, block) (drop-append_seam old bare) in
    check ∙ (ap (λ (t : List ℕ). mid ++ crc_octets kind t) since
    ∙ (ap (λ (t : List ℕ). t ++ crc_octets kind bare) block ∙ append_assoc old bare (crc_octets kind bare)))

pub blocks_octets-push : (bs : List Block7) (b : Block7) → blocks_octets (bs ++ b ∷ []) ≡ blocks_octets bs ++ block_octets b
unfolding blocks_octets
blocks_octets-push [] b = append-nil (block_octets b)
blocks_octets-push (a ∷ bs) b =
    ap (λ (t : List ℕ). block_octets a ++ t) (blocks_octets-push bs b) ∙ sym (append_assoc (block_octets a) (blocks_octets bs) (block_octets b))

-- one block more
pub blocks-more : (old mid new : List ℕ) (bs : List Block7) (b : Block7) → mid ≡ old ++ blocks_octets bs
    → new ≡ mid ++ block_octets b → new ≡ old ++ blocks_octets (bs ++ b ∷ [])
blocks-more old mid new bs b so_far more =
    more ∙ (ap (λ (t : List ℕ). t ++ block_octets b) so_far
    ∙ (append_assoc old (blocks_octets bs) (block_octets b) ∙ ap (λ (t : List ℕ). old ++ t) (sym (blocks_octets-push bs b))))

pub blocks-more-at : (old mid new : List ℕ) (bs : List Block7) (i : ℕ) (b : Block7) → i < length bs → b ≡ get_or bs i b
    → mid ≡ old ++ blocks_octets (take i bs) → new ≡ mid ++ block_octets b → new ≡ old ++ blocks_octets (take (i + 1) bs)
blocks-more-at old mid new bs i b inside is so_far more =
    let one : take (i + 1) bs ≡ take i bs ++ b ∷ [] = take_more bs i b inside ∙ ap (λ (x : Block7). take i bs ++ x ∷ []) (sym is) in
    blocks-more old mid new (take i bs) b so_far more ∙ ap (λ (t : List Block7). old ++ blocks_octets t) (sym one)

pub blocks-none-yet : (old : List ℕ) → old ≡ old ++ blocks_octets []
unfolding blocks_octets
blocks-none-yet old = sym (append-nil old)
