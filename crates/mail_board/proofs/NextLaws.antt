-- A change that fits makes a valid board.
use Rattle.board_layout.specs.Board.{Board}
use Rattle.board_layout.specs.Valid.{IsBoard}
use Rattle.mail_board.specs.Changes.{changed, Fits}
use Rattle.mail_board.specs.declared.change.Change.{Change}
use Rattle.mail_board.specs.declared.change.Change.TheVariants.{Enroll, Append, Spread, Kill, Offer, Acknowledge, Upload}

pub fits_board : (change : Change) (b : Board) → Fits change b → IsBoard (changed change b)
fits_board (Enroll name net members) b fits = fits
fits_board (Append place messages) b fits = fits.1
fits_board (Spread posts) b fits = fits.1
fits_board (Kill place number) b fits = fits.1
fits_board (Offer user highs) b fits = fits.1
fits_board (Acknowledge user packet now) b fits = fits.1
fits_board (Upload user digest refused posts) b fits = fits.1
