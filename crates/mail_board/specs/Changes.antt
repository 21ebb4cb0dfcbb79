-- What a change makes of a board, and where it may be made.
use Rattle.std.specs.Prelude.{◌≡◌, ◌^◌, ◌<◌, length}
use Rattle.post_changes.specs.board_changes.Changed.{enrolled}
use Rattle.board_layout.specs.Board.{Board}
use Rattle.board_layout.specs.Valid.{IsBoard}
use Rattle.mail_board.specs.declared.change.Change.{Change}
use Rattle.mail_board.specs.declared.change.Change.TheVariants.{Enroll, Append, Spread, Kill, Offer, Acknowledge, Upload}
use Rattle.offer_changes.specs.Changed.{acknowledged, offer_made, HasOffer, HasUser, MayOffer}
use Rattle.post_changes.specs.Posted.{ArePlaced, spread, uploaded}
use Rattle.post_changes.specs.slot_changes.Changed.{appended, deleted, HasMessage}

-- the board after it
abbrev pub changed : Change → Board → Board
changed (Enroll name net members) b = enrolled name net members b
changed (Append place messages) b = appended place messages b
changed (Spread posts) b = spread posts b
changed (Kill place number) b = deleted place number b
changed (Offer user highs) b = offer_made user highs b
changed (Acknowledge user packet now) b = acknowledged user packet now b
changed (Upload user digest refused posts) b = uploaded user digest refused posts b

-- the user and the places that it names are there
abbrev pub Exists : Change → Board → Type 0
Exists (Enroll name net members) b = members < 2 ^ length b.conferences
Exists (Append place messages) b = place < length b.conferences
Exists (Spread posts) b = ArePlaced posts b
Exists (Kill place number) b = place < length b.conferences
Exists (Offer user highs) b = HasUser user b × (length highs ≡ length b.conferences)
Exists (Acknowledge user packet now) b = HasUser user b
Exists (Upload user digest refused posts) b = HasUser user b × ArePlaced posts b

-- what it acts on is there, and the board after it is valid
abbrev pub Fits : Change → Board → Type 0
Fits (Enroll name net members) b = IsBoard (changed (Enroll name net members) b)
Fits (Append place messages) b = Exists (Append place messages) b × IsBoard (changed (Append place messages) b)
Fits (Spread posts) b = Exists (Spread posts) b × IsBoard (changed (Spread posts) b)
Fits (Kill place number) b = HasMessage place number b × IsBoard (changed (Kill place number) b)
Fits (Offer user highs) b = MayOffer user b × IsBoard (changed (Offer user highs) b)
Fits (Acknowledge user packet now) b = HasOffer user packet b × IsBoard (changed (Acknowledge user packet now) b)
Fits (Upload user digest refused posts) b = ArePlaced posts b × IsBoard (changed (Upload user digest refused posts) b)
