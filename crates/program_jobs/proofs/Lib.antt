mod FileLines
mod Opening
mod PiecesInspected
mod StreamEnds
mod Texts
