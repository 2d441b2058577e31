-- The bulk page, and the script that is run on it.
use Rattle.std.specs.Prelude.{ℕ, ◌%◌, List, [], ◌∷◌, ◌++◌, codes, decimal, flat_map}
use Rattle.std.specs.List.{range_with_len, join_with_byte}

-- the start tag of the item of this number, with a class that counts by seven
abbrev pub item_tag : ℕ → List ℕ
item_tag i = codes "<li class=\"k" ++ (decimal (i % 7) ++ (codes "\" id=\"n" ++ (decimal i ++ codes "\">")))

-- the link of the item whose number has these digits
abbrev pub link_of : List ℕ → List ℕ
link_of digits = codes "<a href=\"/p/" ++ (digits ++ (codes "\">item " ++ (digits ++ codes "</a>")))

abbrev pub bulk_item : ℕ → List ℕ
bulk_item i = item_tag i ++ link_of (decimal i)

-- the page with the items from 1 to this number, without a line break
abbrev pub bulk_text : ℕ → List ℕ
bulk_text n =
    codes "<!DOCTYPE html><html><head><title>bulk</title></head><body><ul>" ++ (flat_map bulk_item (range_with_len 1 n) ++ codes "</ul></body></html>")

-- five fields, a line each
abbrev pub bulk_script : List ℕ
bulk_script = join_with_byte 10 (
    codes "items: xpath('count(//li)').get()"
    ∷ codes "k3: xpath('count(//li[@class = \"k3\"])').get()"
    ∷ codes "last: css('ul > li:last-child a::text').get()"
    ∷ codes "odd: xpath('count(//li[count(preceding-sibling::li) mod 2 = 0])').get()"
    ∷ codes "first: css('#n1 a::attr(href)').get()"
    ∷ [])
