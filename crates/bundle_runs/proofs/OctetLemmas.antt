-- What spells a bundle is octets: each number in it is below 256, where its bodies are octets and its
-- endpoints have texts.
use Rattle.std.proofs.Common.{◌≡◌, ℕ, zero, suc, ◌+◌, ◌/◌, ◌%◌, ◌^◌, ◌<◌, ◌==◌, nat_lt, nat_le, Bool, true, false, not, if◌then◌else◌, List, [], ◌∷◌, ◌++◌, length, replicate, Option, Some, None, codes, refl, arith, ltb-true}
use Rattle.std.specs.Int.{Width, w8, w16, w32, w64, byte_len, byte_at, bytes_high_first, to_be_bytes}
use Rattle.std.specs.List.{All, flat_map, list_all}
use Rattle.std.specs.Str.{bytes_eq}
use Rattle.std.specs.Fmt.{decimal}
use Rattle.std.proofs.Math.Dec.{lit<}
use Rattle.std.proofs.lemmas.Bool.{and_parts, leb-true}
use Rattle.std.proofs.lemmas.Fmt.{IsAscii-decimal}
use Rattle.std.proofs.lemmas.List.Elements.{All-nil, All-cons, All-head, All-tail, All-append}
use Rattle.sdnv.specs.Shortest.{leading, spelling}
use Rattle.cbor_lite.specs.Head.{first_octet, head}
use Rattle.cbor_lite.specs.Item.{string}
use Rattle.crc_fields.specs.Crc.{crc16_of, crc32c_of}
use Rattle.endpoint.specs.declared.extent.Fragment.{Fragment}
use Rattle.endpoint.specs.declared.name.Endpoint.{Endpoint}
use Rattle.endpoint.specs.declared.name.Endpoint.TheVariants.{Null, Ipn, Dtn}
use Rattle.endpoint.specs.Endpoints.{IsEndpoint, is_visible, is_ssp, scheme_of, ssp_of, text_of}
use Rattle.wire_fields.specs.Reading.{IsOctets}
use Rattle.bundle6.specs.declared.primary.Primary6.{Primary6}
use Rattle.bundle6.specs.declared.block.Block6.{Block6}
use Rattle.bundle6.specs.declared.bundle.Bundle6.{Bundle6}
use Rattle.bundle6.specs.Spelling as six
use Rattle.bundle7.specs.declared.block.Block7.{Block7}
use Rattle.bundle7.specs.declared.bundle.Bundle7.{Bundle7}
use Rattle.bundle7.specs.declared.primary.Primary7.{Primary7}
use Rattle.bundle7.specs.Check.{check16, check32}
use Rattle.bundle7.specs.Spelling as seven
use Rattle.bundle7.specs.Table as table7
use Rattle.translate.specs.Translation.{HoldsOctets7}

-- ---- lists of octets

pub no-octets : IsOctets []
no-octets i = lit< tt

pub more-octets : (b : ℕ) (w : List ℕ) → b < 256 → IsOctets w → IsOctets (b ∷ w)
more-octets b w small fits zero = small
more-octets b w small fits (suc i) = fits i

pub joined-octets : (u v : List ℕ) → IsOctets u → IsOctets v → IsOctets (u ++ v)
joined-octets [] v first second = second
joined-octets (x ∷ u) v first second =
    more-octets x (u ++ v) (first 0) (joined-octets u v (λ i. first (suc i)) second)

pub one-octet : (b : ℕ) → b < 256 → IsOctets (b ∷ [])
one-octet b small = more-octets b [] small no-octets

either-octets : (t : Bool) (u v : List ℕ) → IsOctets u → IsOctets v → IsOctets (if t then u else v)
either-octets true u v first other = first
either-octets false u v first other = other

-- where a test finds each below 256
pub tested-octets : (w : List ℕ) → list_all (λ b. nat_lt b 256) w ≡ true → IsOctets w
tested-octets [] all = no-octets
tested-octets (b ∷ w) all =
    let both = and_parts (nat_lt b 256) (list_all (λ x. nat_lt x 256) w) all in
    more-octets b w (ltb-true b 256 both.0) (tested-octets w both.1)

pub each-octets : {X : Type 0} (f : X → List ℕ) (xs : List X) → All (λ x. IsOctets (f x)) xs → IsOctets (flat_map f xs)
each-octets f [] all = no-octets
each-octets f (x ∷ xs) all =
    joined-octets (f x) (flat_map f xs) (All-head (λ y. IsOctets (f y)) x xs all)
    (each-octets f xs (All-tail (λ y. IsOctets (f y)) x xs all))

-- ---- numbers

leading-octets : (most n : ℕ) → IsOctets (leading most n)
unfolding leading
leading-octets zero n = no-octets
leading-octets (suc most) n =
    let rest = leading-octets most (n / 128) in
    either-octets (n == 0) [] (leading most (n / 128) ++ (n % 128 + 128) ∷ []) no-octets
    (joined-octets (leading most (n / 128)) ((n % 128 + 128) ∷ []) rest (one-octet (n % 128 + 128) (omega arith)))

pub spelling-octets : (n : ℕ) → IsOctets (spelling n)
unfolding spelling
spelling-octets n =
    joined-octets (leading 9 (n / 128)) (n % 128 ∷ []) (leading-octets 9 (n / 128)) (one-octet (n % 128) (omega arith))

small-rest : (n : ℕ) → n % 256 < 256
small-rest n = omega arith

byte-small : (k n : ℕ) → byte_at k n < 256
byte-small zero n = small-rest n
byte-small (suc k) n = small-rest (n / 256 ^ suc k)

high-octets : (k n : ℕ) → IsOctets (bytes_high_first k n)
high-octets zero n = no-octets
high-octets (suc k) n = more-octets (byte_at k n) (bytes_high_first k n) (byte-small k n) (high-octets k n)

width-octets : (width : Width) (n : ℕ) → IsOctets (to_be_bytes width n)
width-octets width n = high-octets (byte_len width) n

-- of a kind below 8
pub head-octets : (kind n : ℕ) → kind < 8 → IsOctets (head kind n)
head-octets kind n small = by (nat_lt n 24) refl
  where
    after : (information : ℕ) (width : Width) → information < 32 → IsOctets (first_octet kind information ∷ to_be_bytes width n)
    after information width low =
        more-octets (first_octet kind information) (to_be_bytes width n) (omega (arith, small, low)) (width-octets width n)

    wide : IsOctets (if nat_lt n (2 ^ 32) then first_octet kind 26 ∷ to_be_bytes w32 n else first_octet kind 27 ∷ to_be_bytes w64 n)
    wide =
        either-octets (nat_lt n (2 ^ 32)) (first_octet kind 26 ∷ to_be_bytes w32 n) (first_octet kind 27 ∷ to_be_bytes w64 n)
        (after 26 w32 (omega arith)) (after 27 w64 (omega arith))

    by : (t : Bool) → nat_lt n 24 ≡ t → IsOctets (head kind n)
    by true is = rw is (one-octet (first_octet kind n) (omega (arith, small, ltb-true n 24 is)))
    by false is =
        rw is
        (either-octets (nat_lt n (2 ^ 8)) (first_octet kind 24 ∷ to_be_bytes w8 n)
        (if nat_lt n (2 ^ 16) then first_octet kind 25 ∷ to_be_bytes w16 n
        else if nat_lt n (2 ^ 32) then first_octet kind 26 ∷ to_be_bytes w32 n else first_octet kind 27 ∷ to_be_bytes w64 n)
        (after 24 w8 (omega arith))
        (either-octets (nat_lt n (2 ^ 16)) (first_octet kind 25 ∷ to_be_bytes w16 n)
        (if nat_lt n (2 ^ 32) then first_octet kind 26 ∷ to_be_bytes w32 n else first_octet kind 27 ∷ to_be_bytes w64 n)
        (after 25 w16 (omega arith)) wide))

string-octets : (kind : ℕ) (body : List ℕ) → kind < 8 → IsOctets body → IsOctets (string kind body)
string-octets kind body small fits =
    joined-octets (head kind (length body)) body (head-octets kind (length body) small) fits

-- ---- endpoints

decimal-octets : (n : ℕ) → n < 2 ^ 64 → IsOctets (decimal n)
decimal-octets n fits i = let low = IsAscii-decimal n fits i in omega (arith, low)

visible-octets : (w : List ℕ) → list_all is_visible w ≡ true → IsOctets w
visible-octets [] all = no-octets
visible-octets (b ∷ w) all =
    let both = and_parts (is_visible b) (list_all is_visible w) all in
    let low = leb-true b 126 (and_parts (nat_le 33 b) (nat_le b 126) both.0).1 in
    more-octets b w (omega (arith, low)) (visible-octets w both.1)

ssp-octets : (ssp : List ℕ) → is_ssp ssp ≡ true → IsOctets ssp
unfolding is_ssp
ssp-octets ssp is =
    let first = and_parts _ (not (bytes_eq ssp (codes "none"))) is in
    visible-octets ssp (and_parts _ (list_all is_visible ssp) first.0).1

pub part-octets : (e : Endpoint) → IsEndpoint e → IsOctets (ssp_of e)
part-octets Null legal = tested-octets (codes "none") refl
part-octets (Ipn node service) legal =
    joined-octets (decimal node) (codes "." ++ decimal service) (decimal-octets node legal.0)
    (joined-octets (codes ".") (decimal service) (tested-octets (codes ".") refl) (decimal-octets service legal.1))
part-octets (Dtn ssp) legal = ssp-octets ssp legal

pub scheme-octets : (e : Endpoint) → IsOctets (scheme_of e)
scheme-octets Null = tested-octets (codes "dtn") refl
scheme-octets (Ipn node service) = tested-octets (codes "ipn") refl
scheme-octets (Dtn ssp) = tested-octets (codes "dtn") refl

pub text-octets : (e : Endpoint) → IsEndpoint e → IsOctets (text_of e)
text-octets e legal =
    joined-octets (scheme_of e) (codes ":" ++ ssp_of e) (scheme-octets e)
    (joined-octets (codes ":") (ssp_of e) (tested-octets (codes ":") refl) (part-octets e legal))

pub eid-octets : (e : Endpoint) → IsEndpoint e → IsOctets (seven.eid_octets e)
eid-octets Null legal =
    joined-octets (head 4 2) (head 0 1 ++ head 0 0) (head-octets 4 2 (omega arith))
    (joined-octets (head 0 1) (head 0 0) (head-octets 0 1 (omega arith)) (head-octets 0 0 (omega arith)))
eid-octets (Ipn node service) legal =
    joined-octets (head 4 2) (head 0 2 ++ (head 4 2 ++ (head 0 node ++ head 0 service))) (head-octets 4 2 (omega arith))
    (joined-octets (head 0 2) (head 4 2 ++ (head 0 node ++ head 0 service)) (head-octets 0 2 (omega arith))
    (joined-octets (head 4 2) (head 0 node ++ head 0 service) (head-octets 4 2 (omega arith))
    (joined-octets (head 0 node) (head 0 service) (head-octets 0 node (omega arith)) (head-octets 0 service (omega arith)))))
eid-octets (Dtn ssp) legal =
    joined-octets (head 4 2) (head 0 1 ++ string 3 ssp) (head-octets 4 2 (omega arith))
    (joined-octets (head 0 1) (string 3 ssp) (head-octets 0 1 (omega arith))
    (string-octets 3 ssp (omega arith) (ssp-octets ssp legal)))

-- ---- a dictionary

-- each of some texts is of octets
abbrev AreOctets : List (List ℕ) → Type 0
AreOctets texts = All IsOctets texts

with_text-octets : (texts : List (List ℕ)) (text : List ℕ) → AreOctets texts → IsOctets text → AreOctets (six.with_text texts text)
with_text-octets texts text are fits = by (six.has_text texts text)
  where
    by : (t : Bool) → AreOctets (if t then texts else texts ++ text ∷ [])
    by true = are
    by false = All-append IsOctets texts (text ∷ []) are (All-cons IsOctets text [] fits (All-nil IsOctets))

with_names-octets : (texts : List (List ℕ)) (endpoints : List Endpoint) → AreOctets texts → All IsEndpoint endpoints
    → AreOctets (six.with_names texts endpoints)
unfolding six.with_names
with_names-octets texts [] are legal = are
with_names-octets texts (e ∷ more) are legal =
    let scheme = with_text-octets texts (scheme_of e) are (scheme-octets e) in
    let named = with_text-octets (six.with_text texts (scheme_of e)) (ssp_of e) scheme (part-octets e (All-head IsEndpoint e more legal)) in
    with_names-octets (six.with_name texts e) more named (All-tail IsEndpoint e more legal)

texts-octets : (b : Bundle6) → All IsEndpoint (six.endpoints_of b) → AreOctets (six.texts_of b)
unfolding six.texts_of
texts-octets b legal = by (list_all six.is_numbered (six.endpoints_of b))
  where
    by : (t : Bool) → AreOctets (if t then [] else six.with_names [] (six.endpoints_of b))
    by true = All-nil IsOctets
    by false = with_names-octets [] (six.endpoints_of b) (All-nil IsOctets) legal

ended-octets : (texts : List (List ℕ)) → AreOctets texts → All (λ text. IsOctets (text ++ 0 ∷ [])) texts
ended-octets [] are = All-nil (λ (text : List ℕ). IsOctets (text ++ 0 ∷ []))
ended-octets (text ∷ texts) are =
    All-cons (λ (t : List ℕ). IsOctets (t ++ 0 ∷ [])) text texts
    (joined-octets text (0 ∷ []) (All-head IsOctets text texts are) (one-octet 0 (omega arith)))
    (ended-octets texts (All-tail IsOctets text texts are))

dictionary-octets : (texts : List (List ℕ)) → AreOctets texts → IsOctets (six.dictionary_octets texts)
unfolding six.dictionary_of
dictionary-octets texts are =
    joined-octets (spelling (length (six.dictionary_of texts))) (six.dictionary_of texts)
    (spelling-octets (length (six.dictionary_of texts)))
    (each-octets (λ text. text ++ 0 ∷ []) texts (ended-octets texts are))

-- ---- version 6

name-octets : (texts : List (List ℕ)) (e : Endpoint) → IsOctets (six.name_octets texts e)
name-octets texts e =
    let pair = six.offsets_of texts e in
    joined-octets (spelling pair.scheme) (spelling pair.ssp) (spelling-octets pair.scheme) (spelling-octets pair.ssp)

part6-octets : (part : Option Fragment) → IsOctets (six.part_octets part)
part6-octets None = no-octets
part6-octets (Some part) = joined-octets (spelling part.offset) (spelling part.total) (spelling-octets part.offset) (spelling-octets part.total)

names6-octets : (texts : List (List ℕ)) (p : Primary6) → IsOctets (six.names_octets texts p)
names6-octets texts p =
    joined-octets (six.name_octets texts p.destination) _ (name-octets texts p.destination)
    (joined-octets (six.name_octets texts p.source) _ (name-octets texts p.source)
    (joined-octets (six.name_octets texts p.report_to) (six.name_octets texts p.custodian) (name-octets texts p.report_to)
    (name-octets texts p.custodian)))

rest-octets : (texts : List (List ℕ)) (p : Primary6) → AreOctets texts → IsOctets (six.rest_octets texts p)
unfolding six.rest_octets
rest-octets texts p are =
    joined-octets (six.names_octets texts p) _ (names6-octets texts p)
    (joined-octets (spelling p.seconds) _ (spelling-octets p.seconds)
    (joined-octets (spelling p.sequence) _ (spelling-octets p.sequence)
    (joined-octets (spelling p.lifetime) _ (spelling-octets p.lifetime)
    (joined-octets (six.dictionary_octets texts) (six.part_octets p.fragment) (dictionary-octets texts are) (part6-octets p.fragment)))))

primary6-octets : (texts : List (List ℕ)) (p : Primary6) → AreOctets texts → IsOctets (six.primary_octets texts p)
unfolding six.primary_octets
primary6-octets texts p are =
    more-octets 6 _ (omega arith)
    (joined-octets (spelling p.flags) _ (spelling-octets p.flags)
    (joined-octets (spelling (length (six.rest_octets texts p))) (six.rest_octets texts p)
    (spelling-octets (length (six.rest_octets texts p))) (rest-octets texts p are)))

refs-octets : (texts : List (List ℕ)) (refs : List Endpoint) → IsOctets (six.refs_octets texts refs)
refs-octets texts [] = no-octets
refs-octets texts (first ∷ more) =
    joined-octets (spelling (length (first ∷ more))) (flat_map (six.name_octets texts) (first ∷ more)) (spelling-octets (length (first ∷ more)))
    (all (first ∷ more))
  where
    all : (refs : List Endpoint) → IsOctets (flat_map (six.name_octets texts) refs)
    all [] = no-octets
    all (e ∷ others) = joined-octets (six.name_octets texts e) (flat_map (six.name_octets texts) others) (name-octets texts e) (all others)

-- a block whose type is an octet, whose body is of octets, and whose references have texts
pub record IsOctetBlock (block : Block6) : Type 0 where
  pub kind : block.kind < 256
  pub refs : All IsEndpoint block.refs
  pub body : IsOctets block.body

-- the endpoints of a primary block have texts
pub record AreNamed6 (p : Primary6) : Type 0 where
  pub destination : IsEndpoint p.destination
  pub source : IsEndpoint p.source
  pub report_to : IsEndpoint p.report_to
  pub custodian : IsEndpoint p.custodian

blocks6-octets : (texts : List (List ℕ)) (blocks : List Block6) → All IsOctetBlock blocks → IsOctets (six.blocks_octets texts blocks)
unfolding six.blocks_octets six.block_octets
blocks6-octets texts [] are = no-octets
blocks6-octets texts (block ∷ more) are =
    let here = All-head IsOctetBlock block more are in
    let rest = blocks6-octets texts more (All-tail IsOctetBlock block more are) in
    let inside = joined-octets (spelling (length block.body)) block.body (spelling-octets (length block.body)) here.body in
    let flags = six.marked (length more == 0) block in
    joined-octets (six.block_octets texts (length more == 0) block) (six.blocks_octets texts more)
    (more-octets block.kind _ here.kind
    (joined-octets (spelling flags) _ (spelling-octets flags)
    (joined-octets (six.refs_octets texts block.refs) _ (refs-octets texts block.refs) inside)))
    rest

refs-named : (blocks : List Block6) → All IsOctetBlock blocks → All IsEndpoint (flat_map (λ block. block.refs) blocks)
refs-named [] are = All-nil IsEndpoint
refs-named (block ∷ more) are =
    All-append IsEndpoint block.refs (flat_map (λ x. x.refs) more) (All-head IsOctetBlock block more are).refs
    (refs-named more (All-tail IsOctetBlock block more are))

endpoints-named : (b : Bundle6) → AreNamed6 b.primary → All IsOctetBlock b.blocks → All IsEndpoint (six.endpoints_of b)
endpoints-named b named are =
    let refs = flat_map (λ (block : Block6). block.refs) b.blocks in
    let p = b.primary in
    All-cons IsEndpoint p.destination (p.source ∷ p.report_to ∷ p.custodian ∷ refs) named.destination
    (All-cons IsEndpoint p.source (p.report_to ∷ p.custodian ∷ refs) named.source
    (All-cons IsEndpoint p.report_to (p.custodian ∷ refs) named.report_to
    (All-cons IsEndpoint p.custodian refs named.custodian (refs-named b.blocks are))))

pub canon-octets : (b : Bundle6) → AreNamed6 b.primary → All IsOctetBlock b.blocks → IsOctets (six.canon6 b)
unfolding six.canon6
canon-octets b named are =
    joined-octets (six.primary_octets (six.texts_of b) b.primary) (six.blocks_octets (six.texts_of b) b.blocks)
    (primary6-octets (six.texts_of b) b.primary (texts-octets b (endpoints-named b named are)))
    (blocks6-octets (six.texts_of b) b.blocks are)

-- ---- version 7

-- the octets of a check
checked-octets : (n : ℕ) (check : List ℕ → List ℕ) (block : List ℕ) → ((w : List ℕ) → IsOctets (check w))
    → IsOctets (seven.check_octets n check block)
checked-octets n check block fits = joined-octets (head 2 n) (check (block ++ head 2 n)) (head-octets 2 n (omega arith)) (fits (block ++ head 2 n))

crc-octets : (crc : ℕ) (block : List ℕ) → IsOctets (seven.crc_octets crc block)
unfolding seven.crc_octets
crc-octets crc block =
    either-octets (crc == 0) [] (if crc == 1 then seven.check_octets 2 check16 block else seven.check_octets 4 check32 block) no-octets
    (either-octets (crc == 1) (seven.check_octets 2 check16 block) (seven.check_octets 4 check32 block)
    (checked-octets 2 check16 block (λ w. width-octets w16 (crc16_of (w ++ replicate 2 0))))
    (checked-octets 4 check32 block (λ w. width-octets w32 (crc32c_of (w ++ replicate 4 0)))))

with_check-octets : (crc : ℕ) (block : List ℕ) → IsOctets block → IsOctets (seven.with_check crc block)
unfolding seven.with_check
with_check-octets crc block fits = joined-octets block (seven.crc_octets crc block) fits (crc-octets crc block)

part7-octets : (part : Option Fragment) → IsOctets (seven.part_octets part)
part7-octets None = no-octets
part7-octets (Some part) =
    joined-octets (head 0 part.offset) (head 0 part.total) (head-octets 0 part.offset (omega arith)) (head-octets 0 part.total (omega arith))

opening-octets : (flags crc : ℕ) → IsOctets (seven.opening_octets flags crc)
opening-octets flags crc =
    let items = 8 + table7.fragment_items (table7.is_fragment flags) + table7.check_items crc in
    joined-octets (head 4 items) (head 0 7 ++ (head 0 flags ++ head 0 crc)) (head-octets 4 items (omega arith))
    (joined-octets (head 0 7) (head 0 flags ++ head 0 crc) (head-octets 0 7 (omega arith))
    (joined-octets (head 0 flags) (head 0 crc) (head-octets 0 flags (omega arith)) (head-octets 0 crc (omega arith))))

-- the same of version 7
pub record AreNamed7 (p : Primary7) : Type 0 where
  pub destination : IsEndpoint p.destination
  pub source : IsEndpoint p.source
  pub report_to : IsEndpoint p.report_to

main-octets : (p : Primary7) → AreNamed7 p → IsOctets (seven.main_octets p)
unfolding seven.main_octets
main-octets p named =
    joined-octets (seven.opening_octets p.flags p.crc) _ (opening-octets p.flags p.crc)
    (joined-octets (seven.names_octets p.destination p.source p.report_to) _
    (joined-octets (seven.eid_octets p.destination) _ (eid-octets p.destination named.destination)
    (joined-octets (seven.eid_octets p.source) (seven.eid_octets p.report_to) (eid-octets p.source named.source)
    (eid-octets p.report_to named.report_to)))
    (joined-octets (seven.creation_octets p.millis p.sequence) _
    (joined-octets (head 4 2) _ (head-octets 4 2 (omega arith))
    (joined-octets (head 0 p.millis) (head 0 p.sequence) (head-octets 0 p.millis (omega arith)) (head-octets 0 p.sequence (omega arith))))
    (joined-octets (head 0 p.lifetime) (seven.part_octets p.fragment) (head-octets 0 p.lifetime (omega arith)) (part7-octets p.fragment))))

block7-octets : (b : Block7) → IsOctets b.body → IsOctets (seven.block_octets b)
unfolding seven.bare_octets
block7-octets b fits =
    with_check-octets b.crc (seven.bare_octets b)
    (joined-octets (head 4 (5 + table7.check_items b.crc)) _ (head-octets 4 (5 + table7.check_items b.crc) (omega arith))
    (joined-octets (head 0 b.kind) _ (head-octets 0 b.kind (omega arith))
    (joined-octets (head 0 b.number) _ (head-octets 0 b.number (omega arith))
    (joined-octets (head 0 b.flags) _ (head-octets 0 b.flags (omega arith))
    (joined-octets (head 0 b.crc) (string 2 b.body) (head-octets 0 b.crc (omega arith)) (string-octets 2 b.body (omega arith) fits))))))

blocks7-octets : (blocks : List Block7) → All (λ block. IsOctets block.body) blocks → IsOctets (seven.blocks_octets blocks)
unfolding seven.blocks_octets
blocks7-octets [] are = no-octets
blocks7-octets (b ∷ more) are =
    joined-octets (seven.block_octets b) (seven.blocks_octets more) (block7-octets b (All-head (λ x. IsOctets x.body) b more are))
    (blocks7-octets more (All-tail (λ x. IsOctets x.body) b more are))

pub octets7-octets : (b : Bundle7) → AreNamed7 b.primary → HoldsOctets7 b → IsOctets (seven.octets7 b)
unfolding seven.octets7
octets7-octets b named hold =
    more-octets 0x9F _ (omega arith)
    (joined-octets (seven.primary_octets b.primary) _
    (with_check-octets b.primary.crc (seven.main_octets b.primary) (main-octets b.primary named))
    (joined-octets (seven.blocks_octets b.exts) _ (blocks7-octets b.exts hold.exts)
    (joined-octets (seven.block_octets b.payload) (0xFF ∷ []) (block7-octets b.payload hold.payload) (one-octet 0xFF (omega arith)))))
