mod WordRows
