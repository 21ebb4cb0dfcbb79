-- How long the texts of a valid setup and the names of valid users are.
use Rattle.std.proofs.Common.{◌≡◌, ℕ, ◌^◌, ◌≤◌, ◌<◌, true, ◌&&◌, leb, List, length, arith}
use Rattle.std.specs.Prelude.{IsTrue, All}
use Rattle.std.specs.List.{list_all}
use Rattle.std.proofs.lemmas.Bool.{leb-true, and_parts}
use Rattle.std.proofs.lemmas.List.Sums.{AllPass-from_list_all}
use Rattle.setup_file.specs.Texts.{is_printed, is_name_byte, has_bare_ends, is_letter_or_digit, is_board_text, is_user_name, is_bbsid, is_conference_name}
use Rattle.setup_file.specs.Rising.{are_rising}
use Rattle.setup_file.specs.Zones.{is_zone, are_zones}

pub board_small : (text : List ℕ) → IsTrue (is_board_text text) → length text ≤ 60
unfolding is_board_text
board_small text e = leb-true _ _ (and_parts (leb (length text) 60) (is_printed text) e).0

pub user_small : (name : List ℕ) → IsTrue (is_user_name name) → length name ≤ 25
unfolding is_user_name
user_small name e = leb-true _ _ (and_parts (leb (length name) 25) (list_all is_name_byte name && has_bare_ends name) e).0

pub bbsid_small : (id : List ℕ) → IsTrue (is_bbsid id) → length id ≤ 8
unfolding is_bbsid
bbsid_small id e =
    let lengths = (and_parts (leb 1 (length id) && leb (length id) 8) (list_all is_letter_or_digit id) e).0 in
    leb-true _ _ (and_parts (leb 1 (length id)) (leb (length id) 8) lengths).1

pub name_small : (name : List ℕ) → IsTrue (is_conference_name name) → length name ≤ 13
unfolding is_conference_name
name_small name e =
    let lengths = (and_parts (leb 1 (length name) && leb (length name) 13) (is_printed name) e).0 in
    leb-true _ _ (and_parts (leb 1 (length name)) (leb (length name) 13) lengths).1

pub zones_few : (zones : List ℕ) → IsTrue (are_zones zones) → length zones ≤ 16
unfolding are_zones
zones_few zones e = leb-true _ _ (and_parts (leb (length zones) 16) (list_all is_zone zones && are_rising zones) e).0

zone_small : (zone : ℕ) → is_zone zone ≡ true → zone < 2 ^ 16
zone_small zone e = let most = leb-true zone 32767 (and_parts (leb 1 zone) (leb zone 32767) e).1 in omega arith

pub zones_small : (zones : List ℕ) → IsTrue (are_zones zones) → All (λ z. z < 2 ^ 16) zones
unfolding are_zones
zones_small zones e =
    let each = (and_parts (list_all is_zone zones) (are_rising zones) (and_parts (leb (length zones) 16) (list_all is_zone zones && are_rising zones) e).1).0 in
    λ k d within. zone_small _ (AllPass-from_list_all is_zone zones each k d within)
